-- What follows a record stands further on in the capture, so that a walk from record to record ends.
use Rattle.std.proofs.Common.{◌≡◌, ℕ, ◌-◌, ◌<◌, List, length, drop, sym, subst, arith, length-drop, Some}
use Rattle.desk_captures.specs.declared.Record.{Record}
use Rattle.desk_captures.specs.Captures.{found_by, next_at, record_by, after_by, after_at}
use Rattle.desk_captures.proofs.Fronts.{front_is}

further : (s : List ℕ) (at : ℕ) (r : Record) → Some r ≡ record_by (next_at s at) → length s - after_at s at < length s - at
unfolding next_at after_at
further s at r =
    front_is
    (λ f. Some r ≡ record_by (found_by at f) → length s - after_by at (found_by at f) < length s - at)
    (drop at s)
    (λ e h. cc)
    (λ h. cc)
    (λ h. cc)
    (λ h. cc)
    (λ m n e p l h. let d = length-drop at s in omega (arith, d, l))

-- the same of what the calls returned
pub walks : (s : List ℕ) (at a : ℕ) (r : Record) → Some r ≡ record_by (next_at s at) → a ≡ after_at s at → length s - a < length s - at
walks s at a r h ea = subst (λ (x : ℕ). length s - x < length s - at) (sym ea) (further s at r h)
