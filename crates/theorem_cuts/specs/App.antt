-- The rewrites of the running app (02, E3), and that each of their cuts is decided (02, E4). `cap` is the payload capacity.
use Rattle.std.specs.Prelude.{ℕ, ◌<◌, ◌≡◌, List, length, get_or, eqb, if◌then◌else◌}
use Rattle.wire_numbers.specs.Flags.{bit_set}
use Rattle.wire_frames.specs.declared.frame.Kind.{Kind}
use Rattle.wire_frames.specs.Fields.{flags_of}
use Rattle.store_record.specs.Cuts.{cut_after}
use Rattle.device_turns.specs.declared.Turn.{Turn}
use Rattle.device_turns.specs.Turns.{Turned, turn_of}
use Rattle.app_record.specs.Changes.{confirm_steps, confirmed, confirm_of, baud_steps, with_baud, baud_stored}
use Rattle.app_state.specs.declared.AppSetup.{AppSetup}
use Rattle.app_state.specs.State.{AppWorld}
use Rattle.app_dispatcher.specs.Acts.{resets, act_of}
use Rattle.theorem_cuts.specs.Cuts.{decides, by_cut}
use Rattle.theorem_cuts.specs.Frames.{Change, stays, rewrites, changed}

-- a confirm in Validating; a baud that is not stored already
abbrev pub confirm_change : List ℕ → Change
confirm_change meta = if eqb (confirm_steps meta) 0 then stays else rewrites (confirmed meta)

abbrev pub baud_change : List ℕ → ℕ → Change
baud_change meta baud = if eqb (baud_steps meta baud) 0 then stays else rewrites (with_baud meta baud)

-- a Reset with flags bit 1, whose low address byte is the baud
abbrev pub row_change : List ℕ → List ℕ → Change
row_change f meta = if bit_set 1 (flags_of f) then baud_change meta (get_or f 4 0) else stays

-- of a frame that has ended, by whose turn it is: no other changes the record
abbrev pub turn_change : Kind → List ℕ → List ℕ → Turn → Change
turn_change kind meta f (Turn.Silent why on) = stays
turn_change kind meta f (Turn.Reply chosen on wait) = if resets kind chosen f then row_change f meta else stays

abbrev pub turned_change : Kind → List ℕ → Turned → Change
turned_change kind meta t = turn_change kind meta t.bytes t.turn

abbrev pub app_change : AppSetup → Kind → AppWorld → Change
app_change s kind w = turned_change kind w.meta (turn_of s.id s.id_len kind w.state.frame w.state.numbers.selected)

-- what the calls make of the record is that, where nothing cuts it
pub record AppWhole (cap : ℕ) : Type 0 where
  pub confirms : (meta : List ℕ) → (confirm_of meta).meta ≡ changed (confirm_change meta) meta
  pub stores : (meta : List ℕ) (baud : ℕ) → (baud_stored meta baud).meta ≡ changed (baud_change meta baud) meta
  pub frames : (s : AppSetup) (kind : Kind) (w : AppWorld) (room : List ℕ) → (act_of cap s kind w room).left.meta ≡ changed (app_change s kind w) w.meta

-- where a change rewrites a record of twelve bytes, the careful start decides at each cut as the old record would, stays, or decides as the new one would, on
-- every flash
abbrev pub Decided : List ℕ → Change → Type 0
Decided meta change =
    (new : List ℕ) → change ≡ rewrites new → length meta ≡ 12 → (capacity mode n : ℕ) (flash : List ℕ) → capacity < 0xFFFFFFFF →
    decides capacity mode flash (cut_after n new meta) ≡ by_cut n (decides capacity mode flash meta) (decides capacity mode flash new)

pub record AppDecided : Type 0 where
  pub confirms : (meta : List ℕ) → Decided meta (confirm_change meta)
  pub stores : (meta : List ℕ) (baud : ℕ) → Decided meta (baud_change meta baud)
  pub frames : (s : AppSetup) (kind : Kind) (w : AppWorld) → Decided w.meta (app_change s kind w)
