-- Bytes that hold an app's state.
use Prim.Native.Nat.{ℕ, ◌<◌}
use mathlib.Core.Path.{◌≡◌}
use mathlib.Core.Bool.{true, ◌&&◌}
use mathlib.Core.List.{List}
use lib.ListN.{length, get_or}
use lib.Dec.{eqb, ltb}
use borrow.Author.Tests.{eqb-true, ltb-true}
use Rattle.laws.proofs.Bools.{and_both}
use Rattle.c_app.specs.App.{holds_app}

pub holds_size : (l : List ℕ) → holds_app 52 l ≡ true → length l ≡ 67
unfolding holds_app
holds_size l e = eqb-true (length l) 67 (and_both (eqb (length l) 67) (ltb (get_or l 65 0) 2 && ltb (get_or l 66 0) 2) e).0

pub holds_flags : (l : List ℕ) → holds_app 52 l ≡ true → (get_or l 65 0 < 2) × (get_or l 66 0 < 2)
unfolding holds_app
holds_flags l e =
    let both : ltb (get_or l 65 0) 2 && ltb (get_or l 66 0) 2 ≡ true = (and_both (eqb (length l) 67) (ltb (get_or l 65 0) 2 && ltb (get_or l 66 0) 2) e).1 in
    let two = and_both (ltb (get_or l 65 0) 2) (ltb (get_or l 66 0) 2) both in
    (ltb-true (get_or l 65 0) 2 two.0, ltb-true (get_or l 66 0) 2 two.1)
