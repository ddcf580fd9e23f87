-- The command of a request, and a Verify's two ends.
use Prim.Native.Nat.{ℕ, ◌<◌}
use mathlib.Core.Path.{◌≡◌, refl, ap}
use mathlib.Core.Bool.{Bool, true, false}
use lib.Dec.{eqb, leb}
use native.Mathlib.Omega.{arith}
use borrow.Author.Tests.{ne_eqb, leb-false}
use Rattle.laws.specs.Pick.{pick}
use Rattle.std.specs.Prelude.{Some, None}
use Rattle.wire_numbers.specs.Names.{cmd_lookup}
use Rattle.wire_frames.specs.Fields.{Unsupported}
use Rattle.cmd_verify.specs.Verify.{Verified}
use Rattle.device_state.specs.declared.Setup.{Setup}
use Rattle.device_state.specs.State.{World, frame_set, meta_set}
use Rattle.device_handler.specs.Handling.{bare, loaded, crc_laid, after_verify, handled_by}

-- a number that is found is that of its command
pub found : (n b : ℕ) → Some n ≡ cmd_lookup b → n ≡ b
found n b e = go (leb b 5) e
  where
    go : (t : Bool) → Some n ≡ pick t (Some b) None → n ≡ b
    go true w = cc
    go false w = cc

-- one that is not has no command, and is not supported
pub unfound : (b cap page : ℕ) (s : Setup) (h : World) → None ≡ cmd_lookup b → bare Unsupported h ≡ handled_by b cap page s h
unfound b cap page s h e = go (leb b 5) refl
  where
    go : (t : Bool) → leb b 5 ≡ t → bare Unsupported h ≡ handled_by b cap page s h
    go true w = let z : None ≡ Some b = rw w at e in cc
    go false w =
        let l : 5 < b = leb-false b 5 w in
        simp (
          ne_eqb b 0 (λ k. omega arith),
          ne_eqb b 1 (λ k. omega arith),
          ne_eqb b 2 (λ k. omega arith),
          ne_eqb b 3 (λ k. omega arith),
          ne_eqb b 4 (λ k. omega arith),
        )
