-- The desk overhears no frame, so that one which ended otherwise than good has one of three statuses.
use Rattle.std.specs.Prelude.{Option, Some, None}
use Prim.Native.Nat.{ℕ, ◌+◌}
use mathlib.Core.Path.{◌≡◌, refl}
use mathlib.Core.Bool.{Bool, true, false, ◌||◌}
use mathlib.Core.Logic.{◌⊎◌, inl, inr}
use mathlib.Core.List.{List, [], ◌∷◌, ◌++◌}
use native.Mathlib.Omega.{arith}
use lib.ListN.{length, get_or, take, drop}
use lib.Dec.{ltb, eqb}
use Rattle.laws.specs.Pick.{pick}
use Rattle.laws.specs.Low.{low_first}
use Rattle.wire_numbers.specs.Crc.{crc_of}
use Rattle.wire_frames.specs.declared.frame.Kind.{Kind}
use Rattle.wire_frames.specs.Fields.{cmd_of, status_of, len_of, data_of}
use Rattle.wire_frames.specs.Reading.{Hunt, Open, Sync, hunt, overhears, verdict_of, checked, Outcome, Begun, Ended, judged, started, from_hunt, read_frame}
use Rattle.wire_frames.specs.Stored.{ended, begun, ready, store, well_of, read_of}
use Rattle.desk_replies.specs.declared.Head.{Head}
use Rattle.desk_replies.specs.Replies.{Typed, nothing, request, reply, faulty, refused, head_of, contents_of, good_of, heard_by, hear_of}
use Rattle.theorem_desk.specs.Desk.{FaultsKnown}
use Rattle.theorem_desk.proofs.Cut.{good_told}

-- none of these is an overheard frame
abbrev Heeded : Kind → Type 0
Heeded k = k ≡ Kind.Overheard → ⊥

abbrev HeededEnd : Option Kind → Type 0
HeededEnd None = ◌≡◌ {A = ℕ} 0 0
HeededEnd (Some k) = Heeded k

abbrev HeededOutcome : Outcome → Type 0
HeededOutcome (Begun q) = ◌≡◌ {A = ℕ} 0 0
HeededOutcome (Ended k q r) = Heeded k

module _ (cap : ℕ) where
  heeded_header : (f : List ℕ) → HeededEnd (verdict_of cap false f)
  unfolding verdict_of overhears
  heeded_header f = go (ltb 5 (cmd_of f) || ltb 7 (status_of f)) (ltb cap (len_of f))
    where
      go : (a b : Bool) → HeededEnd (pick a (Some Kind.Unsupported) (pick b (Some Kind.PayloadOverflow) None))
      go true b = λ e. cc
      go false true = λ e. cc
      go false false = refl

  heeded_whole : (f : List ℕ) → Heeded (checked false f)
  unfolding checked overhears
  heeded_whole f = go (eqb (crc_of (take (10 + len_of f) f)) (low_first (get_or f (10 + len_of f) 0 ∷ get_or f (11 + len_of f) 0 ∷ [])))
    where
      go : (t : Bool) → Heeded (pick t Kind.Good Kind.CrcMismatch)
      go true e = cc
      go false e = cc

  heeded_judged : (v : Option Kind) (f : List ℕ) → HeededEnd v → HeededOutcome (judged false v f)
  heeded_judged (Some k) f h = h
  heeded_judged None f h = go (ltb (length f) (12 + len_of f))
    where
      go : (t : Bool) → HeededOutcome (pick t (Begun f) (Ended (checked false f) (take (12 + len_of f) f) (drop (12 + len_of f) f)))
      go true = refl
      go false = heeded_whole f

  heeded_started : (f : List ℕ) → HeededOutcome (started cap false f)
  unfolding started
  heeded_started f = go (ltb (length f) 10)
    where
      go : (t : Bool) → HeededOutcome (pick t (Begun f) (judged false (verdict_of cap false f) f))
      go true = refl
      go false = heeded_judged (verdict_of cap false f) f (heeded_header f)

  heeded : (l : List ℕ) → HeededOutcome (read_frame cap false l)
  heeded l = go (hunt false l)
    where
      go : (u : Hunt) → HeededOutcome (from_hunt cap false u)
      go (Open b) = refl
      go (Sync m) = heeded_started (0xAA ∷ 0x55 ∷ m)

  abbrev Known : ℕ → Type 0
  Known status = (status ≡ 3) ⊎ ((status ≡ 5) ⊎ (status ≡ 6))

  said : (k : Kind) (f : List ℕ) (status : ℕ) → Heeded k → heard_by (ended k) f ≡ faulty status → Known status
  said Kind.Good f status h e = good_told (λ t. t ≡ faulty status → Known status) (λ h d x. cc) (λ h c x. cc) f e
  said Kind.Unsupported f status h e = let z : status ≡ 5 = cc in inr (inl z)
  said Kind.PayloadOverflow f status h e = let z : status ≡ 6 = cc in inr (inr z)
  said Kind.Overheard f status h e = absurd (h refl)
  said Kind.CrcMismatch f status h e = let z : status ≡ 3 = cc in inl z

-- 4. faults are known
pub faults_known : (cap : ℕ) → FaultsKnown cap
unfolding hear_of read_of
faults_known cap f g l status e = go (well_of cap false f g) (read_frame cap false (begun cap f g ++ l)) refl refl (heeded cap (begun cap f g ++ l))
  where
    go : (t : Bool) (u : Outcome) → well_of cap false f g ≡ t → read_frame cap false (begun cap f g ++ l) ≡ u →
        HeededOutcome (read_frame cap false (begun cap f g ++ l)) → (status ≡ 3) ⊎ ((status ≡ 5) ⊎ (status ≡ 6))
    go true (Begun q) x y h = let a : nothing ≡ faulty status = rw (x, y) at e in cc
    go true (Ended k q r) x y h = said cap k (store cap (ready f) q) status (rw y at h) (rw (x, y) at e)
    go false u x y h = let a : refused ≡ faulty status = rw x at e in cc
