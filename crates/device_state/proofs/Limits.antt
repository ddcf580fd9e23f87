-- What a good setup's numbers are.
use Prim.Native.Nat.{ℕ, ◌%◌, ◌≤◌}
use mathlib.Core.Path.{◌≡◌}
use mathlib.Core.Bool.{Bool, true, not, ◌&&◌}
use lib.Dec.{leb, eqb}
use borrow.Author.Tests.{leb-true}
use Rattle.laws.proofs.Bools.{and_both}
use Rattle.device_state.specs.declared.Setup.{Setup}
use Rattle.device_state.specs.Refusals.{erase_size_fits, capacity_fits, fits, set_up}

-- an erase size
pub erase_most : (page erase : ℕ) → erase_size_fits page erase ≡ true → erase ≤ 32768
unfolding erase_size_fits
erase_most page erase e =
    let rest : Bool = leb erase 32768 && eqb (erase % page) 0 in
    leb-true erase 32768 (and_both (leb erase 32768) (eqb (erase % page) 0) (and_both (leb page erase) rest e).1).0

-- the id's length, the capacity, and the kind of start
pub set_up_limits : (page : ℕ) (s : Setup) → set_up page s ≡ true → (s.id_len ≤ 16) × (s.capacity ≤ 65536) × (s.start_kind ≤ 1)
unfolding fits capacity_fits
set_up_limits page s e =
    let erase : ℕ = s.erase_size in
    let capacity : ℕ = s.capacity in
    let most : Bool = leb capacity 65536 && eqb (capacity % erase) 0 in
    let size : Bool = not (eqb erase 0) && (not (eqb capacity 0) && most) in
    let named : Bool = leb s.id_len 16 && leb s.start_kind 1 in
    let a = and_both (erase_size_fits page erase) (size && named) e in
    let b = and_both size named a.1 in
    let c = and_both (not (eqb erase 0)) (not (eqb capacity 0) && most) b.0 in
    let d = and_both (not (eqb capacity 0)) most c.1 in
    let i = and_both (leb s.id_len 16) (leb s.start_kind 1) b.1 in (
      leb-true s.id_len 16 i.0,
      leb-true capacity 65536 (and_both (leb capacity 65536) (eqb (capacity % erase) 0) d.1).0,
      leb-true s.start_kind 1 i.1,
    )
