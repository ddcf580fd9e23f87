-- No two ends of a frame have one number, so that a contract that gives the number allows one result.
use Rattle.std.specs.Prelude.{Option, Some, None}
use Prim.Native.Nat.{ℕ}
use mathlib.Core.Path.{◌≡◌, refl, ap, sym, ◌∙◌}
use lib.Dec.{eqb}
use Rattle.laws.specs.Pick.{pick}
use Rattle.std.specs.Option.{option_map}
use Rattle.laws.proofs.Inverse.{apart}
use Rattle.wire_frames.specs.declared.frame.Kind.{Kind}
use Rattle.wire_frames.specs.declared.frame.Kind.TheVariants.{Unsupported, PayloadOverflow, Overheard, CrcMismatch, Good}
use Rattle.wire_frames.specs.Reading.{kind_status, end_status}

abbrev kind_from : ℕ → Kind
kind_from n = pick (eqb n 5) Unsupported (pick (eqb n 6) PayloadOverflow (pick (eqb n 0) Overheard (pick (eqb n 3) CrcMismatch Good)))

kind_back : (k : Kind) → kind_from (kind_status k) ≡ k
kind_back Unsupported = refl
kind_back PayloadOverflow = refl
kind_back Overheard = refl
kind_back CrcMismatch = refl
kind_back Good = refl

end_back : (e : Option Kind) → option_map kind_from (end_status e) ≡ e
end_back None = refl
end_back (Some k) = ap Some (kind_back k)

pub end_apart : (a b : Option Kind) → end_status a ≡ end_status b → a ≡ b
end_apart = apart end_status (option_map kind_from) end_back
