-- The starred rows of 01's bench sheet, and some beside them: what is put to a new device, and what that comes to. Read it beside the sheet.
use Rattle.std.specs.Prelude.{ℕ, zero, suc, ◌-◌, true, false, List, [], ◌∷◌, ◌++◌, length, get_or, take, drop, replicate}
use Rattle.laws.specs.Low.{low_bytes}
use Rattle.wire_sender.specs.Sent.{frame}
use Rattle.device_boot.specs.Start.{start_of}
use Rattle.device_state.specs.declared.Setup.{Setup}
use Rattle.device_state.specs.declared.Numbers.{Numbers}
use Rattle.device_state.specs.State.{numbered}
use Rattle.device_start.specs.Starts.{new_state}
use Rattle.theorem_demands.specs.Stream.{Event, Story, story_of}

-- an answer: its number, of its reply the status, the payload and the wait, which silence has not, the mode, and the reason, which silence alone has
pub record Shown : Type 0 where
  pub number : ℕ
  pub status : ℕ
  pub payload : List ℕ
  pub wait : ℕ
  pub mode : ℕ
  pub why : ℕ

abbrev pub shown : Event → Shown
shown e =
    record {
      number = e.told.number;
      status = get_or e.reply 3 0;
      payload = take (e.told.len - 12) (drop 10 e.reply);
      wait = e.told.wait;
      mode = e.told.mode;
      why = e.told.why;
    }

abbrev pub all_shown : List Event → List Shown
all_shown [] = []
all_shown (e ∷ l) = shown e ∷ all_shown l

-- silence, by its reason: 1 overheard reply, 2 unreadable frame, 3 wrong CRC, 4 not selected, 5 Select without a match
abbrev pub silence : ℕ → Shown
silence why = record { number = 1; status = 0; payload = []; wait = 0; mode = 1; why = why }

abbrev pub replies : ℕ → List ℕ → ℕ → Shown
replies status payload wait = record { number = 2; status = status; payload = payload; wait = wait; mode = 1; why = 0 }

abbrev pub refused_with : ℕ → Shown
refused_with status = replies status [] 0

abbrev pub ok : Shown
ok = refused_with 1

abbrev pub restarts : ℕ → Shown
restarts mode = record { number = 3; status = 1; payload = []; wait = 0; mode = mode; why = 0 }

-- the first ten bytes of one, for a frame that ends there; an Info with a CRC of 0, which is not its own
abbrev pub header : ℕ → ℕ → ℕ → List ℕ
header cmd status len = 0xAA ∷ 0x55 ∷ cmd ∷ status ∷ 0 ∷ 0 ∷ 0 ∷ 0 ∷ low_bytes 2 len

abbrev pub damaged : List ℕ
damaged = header 0 0 0 ++ (0 ∷ 0 ∷ [])

-- the commands' requests
abbrev pub info : List ℕ → List ℕ
info d = frame 0 0 0 0 d

abbrev pub erase : ℕ → ℕ → List ℕ
erase addr count = frame 1 0 addr 0 (low_bytes 2 count)

abbrev pub write : ℕ → ℕ → List ℕ → List ℕ
write addr flags d = frame 2 0 addr flags d

abbrev pub verify : ℕ → List ℕ
verify size = frame 3 0 size 0 []

abbrev pub reset : ℕ → ℕ → List ℕ
reset addr flags = frame 4 0 addr flags []

abbrev pub select : ℕ → ℕ → List ℕ → List ℕ
select seed count prefix = frame 5 0 0 0 (seed ∷ count ∷ prefix)

-- what a row comes to: its answers; flash, record and the state's numbers at its end
pub record Came : Type 0 where
  pub answers : List Shown
  pub flash : List ℕ
  pub meta : List ℕ
  pub numbers : Numbers

abbrev pub came : List Shown → List ℕ → List ℕ → Numbers → Came
came answers flash meta numbers = record { answers = answers; flash = flash; meta = meta; numbers = numbers }

-- a row: the key, the id and how many bytes of it count, the flash and the record, how many starts go before the stream, the stream; and what it comes to
pub record Row : Type 0 where
  pub key : ℕ
  pub id : List ℕ
  pub flash : List ℕ
  pub meta : List ℕ
  pub starts : ℕ
  pub stream : List ℕ
  pub after : Came

-- erase size 64, boot version 0x0102, the present start; as much flash as the row has; an id of no bytes is an unaddressed device's
abbrev pub setup_of : Row → Setup
setup_of r =
    record {
      erase_size = 64;
      capacity = length r.flash;
      id = r.id ++ replicate {A = ℕ} (16 - length r.id) 0;
      id_len = length r.id;
      version = 0x0102;
      key = r.key;
      start_kind = 0;
    }

-- so many starts, each asked for a hand-off: what they leave of the record
unfoldable pub started_by : ℕ → ℕ → List ℕ → List ℕ → List ℕ
started_by zero capacity flash meta = meta
started_by (suc n) capacity flash meta = started_by n capacity flash (start_of false capacity 0 flash meta).meta

abbrev pub story_of_row : ℕ → ℕ → Row → Story
story_of_row cap page r =
    story_of cap page (setup_of r)
    (record { state = new_state cap page false; flash = r.flash; meta = started_by r.starts (length r.flash) r.flash r.meta })
    r.stream

-- what each row comes to: by the rules, and by the table
abbrev pub came_of : Story → Came
came_of t = came (all_shown t.events) t.left.flash t.left.meta t.left.state.numbers

abbrev pub given : ℕ → ℕ → List Row → List Came
given cap page [] = []
given cap page (r ∷ l) = came_of (story_of_row cap page r) ∷ given cap page l

abbrev pub expected : List Row → List Came
expected [] = []
expected (r ∷ l) = r.after ∷ expected l

-- the numbers at the end: no run and not selected; a run of this fill and next address; selected; closed
abbrev pub resting : Numbers
resting = numbered 0 0 0xFFFFFFFF false false

abbrev pub running : ℕ → ℕ → Numbers
running fill next = numbered 0 fill next false false

abbrev pub selected : Numbers
selected = numbered 0 0 0xFFFFFFFF true false

abbrev pub shut : Numbers
shut = numbered 0 0 0xFFFFFFFF false true

-- erased flash; 128 bytes that end in the version 1.2.3
abbrev pub blank : ℕ → List ℕ
blank n = replicate {A = ℕ} n 0xFF

abbrev pub image : List ℕ
image = blank 126 ++ (0x83 ∷ 0x08 ∷ [])

-- a record of state, trials, checksum and size; its baud is 5, its reserved bytes 1 2 3
abbrev pub record_of : ℕ → ℕ → ℕ → ℕ → List ℕ
record_of state trials checksum size = state ∷ trials ∷ (low_bytes 2 checksum ++ (low_bytes 4 size ++ (5 ∷ 1 ∷ 2 ∷ 3 ∷ [])))

abbrev pub in_state : ℕ → List ℕ
in_state state = record_of state 0x0F 0x1234 128

-- an unaddressed device without a key: from this flash and record to those
abbrev pub plain : List ℕ → List ℕ → List ℕ → Came → Row
plain flash meta stream after = record { key = 0xFFFFFFFF; id = []; flash = flash; meta = meta; starts = 0; stream = stream; after = after }

-- a device that changes neither flash nor record: unaddressed, or with the id 5A 01
abbrev pub kept : List ℕ → ℕ → List ℕ → List Shown → Numbers → Row
kept flash state stream answers numbers = plain flash (in_state state) stream (came answers flash (in_state state) numbers)

abbrev pub named : List ℕ → List Shown → Numbers → Row
named stream answers numbers =
    record {
      key = 0xFFFFFFFF;
      id = 0x5A ∷ 0x01 ∷ [];
      flash = image;
      meta = in_state 0xFF;
      starts = 0;
      stream = stream;
      after = came answers image (in_state 0xFF) numbers;
    }

-- starts alone: so many, from these trials to those, with a checksum that is not the image's
abbrev pub starting : ℕ → ℕ → ℕ → Row
starting n trials after =
    record {
      key = 0xFFFFFFFF;
      id = [];
      flash = blank 128;
      meta = record_of 0x3F trials 0x1234 1;
      starts = n;
      stream = [];
      after = came [] (blank 128) (record_of 0x3F after 0x1234 1) resting;
    }

-- Info's eighteen bytes on that image and record: capacity, erase size, boot version, the image's, mode, baud, key, payload capacity
abbrev pub info_reply : Shown
info_reply = replies 1 (128 ∷ 0 ∷ 0 ∷ 0 ∷ 64 ∷ 0 ∷ 2 ∷ 1 ∷ 0x83 ∷ 8 ∷ 0 ∷ 5 ∷ 0xFF ∷ 0xFF ∷ 0xFF ∷ 0xFF ∷ 52 ∷ 0 ∷ []) 0

-- the id replied to a Select, after this wait
abbrev pub id_reply : ℕ → Shown
id_reply wait = replies 1 (0x5A ∷ 1 ∷ []) wait

-- row 1: a length of 52 is read, 53 is too long, and 53 in another's reply is silence
abbrev pub row1 : Row
row1 =
    kept image 0xFF (info (replicate {A = ℕ} 52 0) ++ (header 2 0 53 ++ header 2 1 53)) (info_reply ∷ refused_with 6 ∷ silence 1 ∷ []) resting

-- row 2: an AA before AA 55
abbrev pub row2 : Row
row2 = kept image 0xFF (0xAA ∷ info []) (info_reply ∷ []) resting

-- row 3: command 6 with status 1, unaddressed and addressed; with it the other errors of a frame, a status of 8 and a wrong CRC. The addressed device is
-- silent before it is selected and while it is
abbrev pub row3 : Row
row3 = kept image 0xFF (header 6 1 0 ++ (header 0 8 0 ++ damaged)) (refused_with 5 ∷ refused_with 5 ∷ refused_with 3 ∷ []) resting

abbrev pub row3-addressed : Row
row3-addressed =
    named (header 6 1 0 ++ (select 3 9 (0x5A ∷ 0xFF ∷ []) ++ (header 6 1 0 ++ (header 2 0 53 ++ damaged))))
    (silence 2 ∷ id_reply 11 ∷ silence 2 ∷ silence 2 ∷ silence 3 ∷ [])
    selected

-- row 4: with no run open a Write at 32 is refused, at 64 taken
abbrev pub row4 : Row
row4 = kept (blank 192) 0x7F (write 32 0 (1 ∷ []) ++ write 64 0 (1 ∷ [])) (refused_with 4 ∷ ok ∷ []) (running 1 65)

-- row 5: ten bytes at 64; then 128 is refused, 74 taken
abbrev pub row5 : Row
row5 =
    kept (blank 192) 0x7F (write 64 0 (replicate {A = ℕ} 10 7) ++ (write 128 0 (1 ∷ []) ++ write 74 0 (1 ∷ [])))
    (ok ∷ refused_with 4 ∷ ok ∷ [])
    (running 11 75)

-- row 6: a Write of nothing at 128 opens a run, so that 0 is refused
abbrev pub row6 : Row
row6 = kept (blank 192) 0x7F (write 128 0 [] ++ write 0 0 []) (ok ∷ refused_with 4 ∷ []) (running 0 128)

-- row 7: sizes 0 and one past the capacity are refused, the capacity is taken; the record is rewritten, all trials with it, but for baud and reserved bytes
abbrev pub row7 : Row
row7 =
    plain (blank 128) (in_state 0x7F) (verify 0 ++ (verify 129 ++ verify 128))
    (came (refused_with 4 ∷ refused_with 4 ∷ replies 1 (0xA3 ∷ 0x1D ∷ []) 0 ∷ []) (blank 128) (record_of 0x3F 0xFF 0x1DA3 128) resting)

-- row 8: with the key 04030201, sizes 2 and 5 are Incompatible, and 6 is taken with the key in front
abbrev pub row8 : Row
row8 =
    record {
      key = 0x04030201;
      id = [];
      flash = 1 ∷ 2 ∷ 3 ∷ 4 ∷ blank 60;
      meta = in_state 0x7F;
      starts = 0;
      stream = verify 2 ++ (verify 5 ++ verify 6);
      after =
          came (refused_with 7 ∷ refused_with 7 ∷ replies 1 (0x20 ∷ 0x55 ∷ []) 0 ∷ []) (1 ∷ 2 ∷ 3 ∷ 4 ∷ blank 60) (record_of 0x3F 0xFF 0x5520 6) resting;
    }

-- row 9: trials FF have eight steps, the seventh leaves 1; B0 goes to 10, then to 0; a ninth start finds none and leaves the record
abbrev pub row9 : List Row
row9 = starting 7 0xFF 1 ∷ starting 8 0xFF 0 ∷ starting 9 0xFF 0 ∷ starting 1 0xB0 0x10 ∷ starting 2 0xB0 0 ∷ []

-- row 10: of the id 5A 01, nine bits 5A FF match and 5A 00 do not; seventeen never, none always. The id's CRC is EC5A: seed 3 gives a wait of 11, and seed F8,
-- as 8 would, one of 12. An Info is answered while the device is selected, and not before or after
abbrev pub row10 : Row
row10 =
    named
    (info [] ++
    (select 3 9 (0x5A ∷ 0xFF ∷ []) ++
    (info [] ++ (select 3 9 (0x5A ∷ 0 ∷ []) ++ (info [] ++ (select 0 17 (0x5A ∷ 1 ∷ 0 ∷ []) ++ select 0xF8 0 []))))))
    (silence 4 ∷ id_reply 11 ∷ info_reply ∷ silence 5 ∷ silence 4 ∷ silence 5 ∷ id_reply 12 ∷ [])
    selected

-- row 11: a cell of 0F written 3C is 0C; flags bit 7 ends the run
abbrev pub row11 : Row
row11 =
    plain (0x0F ∷ blank 63) (in_state 0x7F) (write 0 0x80 (0x3C ∷ [])) (came (ok ∷ []) (0x0C ∷ blank 63) (in_state 0x7F) resting)

-- row 12: counts 0 and 96 are refused, and the record stays Idle; 64 is taken, and its state alone is stepped
abbrev pub row12_refused : Row
row12_refused = kept (replicate {A = ℕ} 128 0) 0xFF (erase 64 0 ++ erase 0 96) (refused_with 4 ∷ refused_with 4 ∷ []) resting

abbrev pub row12 : Row
row12 =
    plain (replicate {A = ℕ} 128 0) (in_state 0xFF) (erase 64 64)
    (came (ok ∷ []) (replicate {A = ℕ} 64 0 ++ blank 64) (in_state 0x7F) resting)

-- row 13: a Reset to the app is refused while Updating, and the device goes on
abbrev pub row13 : Row
row13 = kept image 0x7F (reset 0 0 ++ info []) (refused_with 5 ∷ info_reply ∷ []) resting

-- beside the sheet: an Erase makes of Validating Updating with no image, and of a record's other bytes keeps baud and reserved ones
abbrev pub erase-validating : Row
erase-validating =
    plain (replicate {A = ℕ} 64 0) (in_state 0x3F) (erase 0 64) (came (ok ∷ []) (blank 64) (record_of 0x7F 0xFF 0xFFFF 0xFFFFFFFF) resting)

-- an Erase leaves the run open
abbrev pub erase_in_a_run : Row
erase_in_a_run =
    plain (replicate {A = ℕ} 64 0 ++ blank 64) (in_state 0x7F) (write 64 0 (replicate {A = ℕ} 10 7) ++ (erase 0 64 ++ write 74 0 (1 ∷ [])))
    (came (ok ∷ ok ∷ ok ∷ []) (blank 128) (in_state 0x7F) (running 11 75))

-- an Erase of no data takes its count from what stands there, the first two bytes of Info's reply: 128
abbrev pub short_erase : Row
short_erase =
    plain image (in_state 0x7F) (info [] ++ frame 1 0 0 0 []) (came (info_reply ∷ ok ∷ []) (blank 128) (in_state 0x7F) resting)

-- a Select of no data takes seed 5A, count 1 and prefix 32 from what stands there: the id, and the CRC F032 of the reply before it
abbrev pub short_select : Row
short_select = named (select 3 0 [] ++ frame 5 0 0 0 []) (id_reply 11 ∷ id_reply 11 ∷ []) selected

-- an accepted Reset to Service stores the baud and nothing else, restarts in that mode, and nothing after it is taken
abbrev pub reset_taken : Row
reset_taken =
    plain image (in_state 0x7F) (reset 0x030207 3 ++ info [])
    (came (restarts 1 ∷ []) image (0x7F ∷ 0x0F ∷ 0x34 ∷ 0x12 ∷ 128 ∷ 0 ∷ 0 ∷ 0 ∷ 7 ∷ 1 ∷ 2 ∷ 3 ∷ []) shut)

-- where two reasons apply, the frame's is told and not the selection's, and of the frame's the one that is read first: of a device that is not selected, a
-- command of 6 in another's reply, a length of 53 in one, a reply with a wrong CRC, a good one, an Info and a Select with a wrong CRC, an Info, a Select for
-- another
abbrev pub why_silent : Row
why_silent =
    named
    (header 6 1 0 ++
    (header 2 1 53 ++
    (header 0 1 0 ++
    (0 ∷
    0 ∷ (frame 0 1 0 0 [] ++ (damaged ++ (header 5 0 0 ++ (0 ∷ 0 ∷ (info [] ++ select 3 9 (0x5A ∷ 0 ∷ []))))))))))
    (silence 2 ∷ silence 1 ∷ silence 1 ∷ silence 1 ∷ silence 3 ∷ silence 3 ∷ silence 4 ∷ silence 5 ∷ [])
    resting

abbrev pub sheet : List Row
sheet =
    row1 ∷ row2 ∷ row3 ∷ row3-addressed ∷ row4 ∷ row5 ∷ row6 ∷ row7 ∷ row8 ∷
    (row9 ++ (row10 ∷ row11 ∷ row12_refused ∷ row12 ∷ row13 ∷ erase-validating ∷ erase_in_a_run ∷ short_erase ∷ short_select ∷ reset_taken ∷ why_silent ∷ []))
