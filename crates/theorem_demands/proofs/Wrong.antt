-- Four wrong devices do not meet demand 3: one that works at first and later only acknowledges, and three that say wrongly how much they took: of every piece
-- all, of the piece with an accepted Reset all, and of every piece nothing.
use Prim.Native.Nat.{ℕ, ◌<◌}
use mathlib.Core.Path.{◌≡◌, refl, ap}
use mathlib.Core.Bool.{false}
use mathlib.Core.Logic.{inl, inr}
use mathlib.Core.List.{List, [], ◌∷◌, ◌++◌}
use native.Mathlib.Omega.{arith}
use lib.ListN.{length, get_or, replicate}
use Rattle.device_state.specs.declared.Setup.{Setup}
use Rattle.device_state.specs.State.{World}
use Rattle.device_start.specs.Starts.{new_state}
use Rattle.device_feed.proofs.Rules.{call_rules}
use Rattle.cmd_reset.specs.Reset.{reset_of, reset_refused}
use Rattle.theorem_streams.specs.Demand.{next, stop}
use Rattle.theorem_demands.specs.Stream.{Event, Story, stream_of}
use Rattle.theorem_demands.specs.Devices.{acknowledging, greedy, swallows, stalls}
use Rattle.theorem_demands.specs.Demand.{ours, Good, Demand3}
use Rattle.wire_sender.specs.Sent.{frame}
use Rattle.theorem_demands.specs.Sheet.{header, blank}
use Rattle.theorem_demands.proofs.Cut.{new_good}

-- a new unaddressed module of 64 bytes
abbrev module_of_64 : Setup
module_of_64 = record { erase_size = 64; capacity = 64; id = replicate {A = ℕ} 16 0; id_len = 0; version = 0; key = 0xFFFFFFFF; start_kind = 0 }

abbrev fresh : World
fresh = record { state = new_state 52 64 false; flash = blank 64; meta = blank 12 }

good : Good 52 64 module_of_64 fresh
unfolding call_rules
good = new_good module_of_64 (blank 64) (blank 12) refl refl refl

abbrev room : List ℕ
room = replicate {A = ℕ} 64 0

-- a command that is none, and an AA behind it: the AA is lost
pub greedy-fails : Demand3 52 64 (greedy ours) → ⊥
unfolding call_rules stream_of
greedy-fails d =
    let l : List ℕ = header 6 0 0 ++ (0xAA ∷ []) in
    let t = (d module_of_64).uncut fresh good l _ (stop l [] room _ refl refl (omega arith) (inr refl)) in
    let z : ◌≡◌ {A = ℕ} 0 1 = ap (λ (v : Story). v.left.state.numbers.got) t in
    omega arith

-- the first byte of the second reply
second : List Event → ℕ
second [] = 0
second (e ∷ []) = 0
second (e ∷ a ∷ l) = get_or a.reply 0 0

-- the same command twice: the second is answered, and no reply is in the room
pub acknowledging-fails : Demand3 52 64 (acknowledging ours) → ⊥
unfolding call_rules stream_of second
acknowledging-fails d =
    let l : List ℕ = header 6 0 0 in
    let t =
    (d module_of_64).uncut fresh good (l ++ l) _
    (next l l room _ refl refl (omega arith) (λ e. omega arith) (stop l [] room _ refl refl (omega arith) (inr refl))) in
    let z : ◌≡◌ {A = ℕ} 0 0xAA = ap (λ (v : Story). second v.events) t in
    omega arith

-- a Reset that is accepted, and an AA behind it: it should be left
pub swallows-fails : Demand3 52 64 (swallows ours) → ⊥
unfolding call_rules stream_of reset_of reset_refused
swallows-fails d =
    let l : List ℕ = frame 4 0 0 1 [] ++ (0xAA ∷ []) in
    let t = (d module_of_64).uncut fresh good l _ (stop l [] room _ refl refl (omega arith) (inl refl)) in
    let z : ◌≡◌ {A = ℕ} 0 1 = ap (λ (v : Story). length v.rest) t in
    omega arith

-- a piece of one byte: it should be taken
pub stalls-fails : Demand3 52 64 (stalls ours) → ⊥
stalls-fails d =
    let z : 0 < 0 = ((d module_of_64).moves fresh good (0xAA ∷ []) room (omega arith) _ refl).1 (omega arith) in
    omega arith
