-- What some streams come to, put to a new app client. The expected values follow from 02 (E3), 01 (Frame bytes; Commands, Info and Select) and the Rust's
-- lib/core/src/app.rs; frames and their answers are written as in the bench sheet's table (theorem_demands/Sheet.antt).
use Rattle.std.specs.Prelude.{ℕ, ◌-◌, Bool, true, false, List, [], ◌∷◌, ◌++◌, length, replicate}
use Rattle.app_state.specs.declared.AppSetup.{AppSetup}
use Rattle.app_state.specs.declared.AppNumbers.{AppNumbers}
use Rattle.app_state.specs.State.{numbered, new_app}
use Rattle.theorem_demands.specs.Sheet.{Shown, all_shown, silence, replies, refused_with, header, damaged, info, erase, write, verify, reset, select}
use Rattle.theorem_demands.specs.Sheet.{record_of, in_state, id_reply}
use Rattle.theorem_app.specs.Stream.{Story, story_of}

-- a Reset's answer: a restart in this mode, and nothing is sent
abbrev pub hands_over : ℕ → Shown
hands_over mode = record { number = 3; status = 0; payload = []; wait = 0; mode = mode; why = 0 }

-- what a row comes to: its answers, the record and the state's numbers at its end, and how many bytes of it are left
pub record Came : Type 0 where
  pub answers : List Shown
  pub meta : List ℕ
  pub numbers : AppNumbers
  pub rest : ℕ

-- a row: the id, the record, the stream; and what it comes to
pub record Row : Type 0 where
  pub id : List ℕ
  pub meta : List ℕ
  pub stream : List ℕ
  pub after : Came

-- 128 bytes, erase size 64, boot version 0x0102, no key, app version 1.2.3; an id of no bytes is an unaddressed app's
abbrev pub setup_of : Row → AppSetup
setup_of r =
    record {
      erase_size = 64;
      capacity = 128;
      id = r.id ++ replicate {A = ℕ} (16 - length r.id) 0;
      id_len = length r.id;
      version = 0x0102;
      key = 0xFFFFFFFF;
      app_version = 0x0883;
    }

-- what each row comes to: by the rules, and by the table
abbrev pub came_of : Story → Came
came_of t = record { answers = all_shown t.events; meta = t.left.meta; numbers = t.left.state.numbers; rest = length t.rest }

abbrev pub given : ℕ → ℕ → List Row → List Came
given cap page [] = []
given cap page (r ∷ l) = came_of (story_of cap page (setup_of r) (record { state = new_app cap; meta = r.meta }) r.stream) ∷ given cap page l

abbrev pub expected : List Row → List Came
expected [] = []
expected (r ∷ l) = r.after ∷ expected l

-- the numbers at the end: open, selected or not; closed
abbrev pub opened : Bool → AppNumbers
opened selected = numbered 0 selected false

abbrev pub shut : AppNumbers
shut = numbered 0 false true

-- an app that leaves the record: unaddressed, or with the id 5A 01
abbrev pub kept : List ℕ → List ℕ → List ℕ → List Shown → Bool → Row
kept id meta stream answers selected =
    record { id = id; meta = meta; stream = stream; after = record { answers = answers; meta = meta; numbers = opened selected; rest = 0 } }

-- an unaddressed app that is reset: the record afterwards, the mode, and how many bytes are left
abbrev pub reset_by : List ℕ → List ℕ → List ℕ → ℕ → ℕ → Row
reset_by meta stream after mode rest =
    record { id = []; meta = meta; stream = stream; after = record { answers = hands_over mode ∷ []; meta = after; numbers = shut; rest = rest } }

-- Info's eighteen bytes: capacity, erase size, boot version, the app's own, mode 1, baud 5, key, payload capacity
abbrev pub info_reply : Shown
info_reply = replies 1 (128 ∷ 0 ∷ 0 ∷ 0 ∷ 64 ∷ 0 ∷ 2 ∷ 1 ∷ 0x83 ∷ 8 ∷ 1 ∷ 5 ∷ 0xFF ∷ 0xFF ∷ 0xFF ∷ 0xFF ∷ 52 ∷ 0 ∷ []) 0

-- the configured version is told whatever size is stored, and in any state
abbrev pub info_always : List Row
info_always =
    kept [] (in_state 0xFF) (info []) (info_reply ∷ []) false
    ∷ kept [] (record_of 0x7F 0xFF 0xFFFF 0xFFFFFFFF) (info []) (info_reply ∷ []) false
    ∷ []

-- every other command of an unaddressed app is Unsupported, Select too, and the record stays
abbrev pub unsupported : Row
unsupported =
    kept [] (in_state 0x7F) (erase 0 64 ++ (write 0 0 (1 ∷ []) ++ (verify 64 ++ select 0 0 [])))
    (refused_with 5 ∷ refused_with 5 ∷ refused_with 5 ∷ refused_with 5 ∷ [])
    false

-- errors of a frame are replied to with their status; another's reply is silence
abbrev pub errors : Row
errors =
    kept [] (in_state 0xFF) (header 6 1 0 ++ (header 2 0 53 ++ (damaged ++ header 2 1 53)))
    (refused_with 5 ∷ refused_with 6 ∷ refused_with 3 ∷ silence 1 ∷ [])
    false

-- with an id: silent until selected, and the id after the wait that the bootloader would wait too; then Info, and Unsupported for what the app has not; a
-- Select for another deselects
abbrev pub addressed : Row
addressed =
    kept (0x5A ∷ 0x01 ∷ []) (in_state 0xFF)
    (info [] ++
    (select 3 9 (0x5A ∷ 0xFF ∷ []) ++ (info [] ++ (erase 0 64 ++ (damaged ++ (select 3 9 (0x5A ∷ 0 ∷ []) ++ info []))))))
    (silence 4 ∷ id_reply 11 ∷ info_reply ∷ refused_with 5 ∷ silence 3 ∷ silence 5 ∷ silence 4 ∷ [])
    false

-- a Reset to Service stores the low address byte as it is, and nothing after it is taken
abbrev pub reset_baud : Row
reset_baud =
    reset_by (in_state 0x3F) (reset 0x0302EE 3 ++ (0xAA ∷ [])) (0x3F ∷ 0x0F ∷ 0x34 ∷ 0x12 ∷ 128 ∷ 0 ∷ 0 ∷ 0 ∷ 0xEE ∷ 1 ∷ 2 ∷ 3 ∷ []) 1 1

-- a hand-off is not refused while Updating; the baud that is stored already, and bit 2, change nothing
abbrev pub reset_hand_off : List Row
reset_hand_off =
    reset_by (in_state 0x7F) (reset 0 0) (in_state 0x7F) 0 0
    ∷ reset_by (in_state 0xFF) (reset 5 2) (in_state 0xFF) 0 0
    ∷ reset_by (in_state 0xFF) (reset 0x000900 4) (in_state 0xFF) 0 0
    ∷ []

abbrev pub rows : List Row
rows = info_always ++ (unsupported ∷ errors ∷ addressed ∷ reset_baud ∷ reset_hand_off)
