-- The app's refusals beside the bootloader's: the same setup numbers are good, and there is no 12.
use Prim.Native.Nat.{ℕ, ◌+◌}
use mathlib.Core.Path.{◌≡◌, refl}
use mathlib.Core.Bool.{Bool, true, false, not, ◌&&◌}
use mathlib.Core.List.{List}
use native.Mathlib.Omega.{arith}
use lib.Dec.{eqb, leb, ltb}
use borrow.Author.Tests.{eq-eqb}
use Rattle.laws.specs.Pick.{pick}
use Rattle.laws.proofs.Bools.{and_both}
use Rattle.wire_frames.specs.Stored.{well_of}
use Rattle.device_state.specs.declared.Setup.{Setup}
use Rattle.device_state.specs.Refusals.{erase_size_fits, capacity_fits, fits, set_up, lengths_of}
use Rattle.app_state.specs.declared.AppSetup.{AppSetup}
use Rattle.app_state.specs.declared.AppNumbers.{AppNumbers}
use Rattle.app_state.specs.Refusals.{app_set_up, app_refusal_of}

-- the app of a bootloader, of this version
abbrev pub app_of : Setup → ℕ → AppSetup
app_of s version =
    record {
      erase_size = s.erase_size;
      capacity = s.capacity;
      id = s.id;
      id_len = s.id_len;
      version = s.version;
      key = s.key;
      app_version = version;
    }

-- it is set up well where the bootloader is
pub set_up_same : (page : ℕ) (s : Setup) (version : ℕ) → set_up page s ≡ true → app_set_up page (app_of s version) ≡ true
unfolding fits
set_up_same page s version e =
    let size : Bool = capacity_fits s.erase_size s.capacity in
    let id : Bool = leb s.id_len 16 in
    let kind : Bool = leb s.start_kind 1 in
    let a = and_both (erase_size_fits page s.erase_size) (size && (id && kind)) e in
    let b = and_both size (id && kind) a.1 in
    simp (a.0, b.0, (and_both id kind b.1).0)

-- with a flash of its length, the lengths that are left and what is closed
pub lengths-left : (cap capacity meta room : ℕ) (closed : Bool) → lengths_of cap capacity capacity meta room closed
    ≡ pick (not (eqb meta 12)) 13 (pick (ltb room (12 + cap)) 14 (pick closed 15 0))
unfolding lengths_of
lengths-left cap capacity meta room closed = simp (eq-eqb capacity capacity refl)

-- no call is refused for a flash
pub never_flash : (cap page : ℕ) (s : AppSetup) (f : List ℕ) (n : AppNumbers) (meta room : ℕ) → app_refusal_of cap page s f n meta room ≡ 12 → ⊥
unfolding app_refusal_of
never_flash cap page s f n meta room =
    rw (lengths-left cap s.capacity meta room n.closed)
    (go (app_set_up page s) (well_of cap true f n.got) (eqb meta 12) (ltb room (12 + cap)) n.closed)
  where
    go : (a b c d e : Bool) →
        ◌≡◌ {A = ℕ} (pick (not a) 10 (pick (not b) 11 (pick (not c) 13 (pick d 14 (pick e 15 0))))) 12 → ⊥
    go false b c d e z = omega arith
    go true false c d e z = omega arith
    go true true false d e z = omega arith
    go true true true true e z = omega arith
    go true true true false true z = omega arith
    go true true true false false z = omega arith
