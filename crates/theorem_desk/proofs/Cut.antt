-- The desk's reading may be cut anywhere: by the laws of the reader's.
use Prim.Native.Nat.{ℕ}
use mathlib.Core.Path.{◌≡◌, refl, ap}
use mathlib.Core.Bool.{Bool, true, false}
use mathlib.Core.List.{List}
use lib.Dec.{eqb}
use Rattle.laws.specs.Pick.{pick}
use Rattle.wire_frames.specs.declared.frame.Kind.{Kind}
use Rattle.wire_frames.specs.Fields.{cmd_of, status_of, len_of, data_of}
use Rattle.wire_frames.specs.Stored.{Said, quiet, ended, no_beginning, read_of}
use Rattle.wire_frames.proofs.Anywhere.{cut_stopped, cut_going}
use Rattle.desk_replies.specs.declared.Head.{Head}
use Rattle.desk_replies.specs.Replies.{Typed, Told, nothing, request, reply, head_of, contents_of, good_of, heard_by, hearing_of, hear_of}
use Rattle.theorem_desk.specs.Desk.{HeardInParts}

-- what holds of each request and each reply holds of what a good frame tells
pub good_told : (P : Told → Type 0) → ((h : Head) (d : List ℕ) → P (request h d)) → ((h : Head) (c : Typed) → P (reply h c)) → (f : List ℕ) → P (good_of f)
unfolding good_of
good_told P asked answered f = go (eqb (status_of f) 0)
  where
    go : (t : Bool) → P (pick t (request (head_of f) (data_of f)) (reply (head_of f) (contents_of (cmd_of f) (len_of f) (data_of f))))
    go true = asked _ _
    go false = answered _ _

-- only a reading that goes on tells nothing
told_quiet : (s : Said) (f : List ℕ) → heard_by s f ≡ nothing → s ≡ quiet
told_quiet quiet f e = refl
told_quiet (ended Kind.Good) f e = good_told (λ t. t ≡ nothing → ended Kind.Good ≡ quiet) (λ h d x. cc) (λ h c x. cc) f e
told_quiet (ended Kind.Unsupported) f e = cc
told_quiet (ended Kind.PayloadOverflow) f e = cc
told_quiet (ended Kind.Overheard) f e = cc
told_quiet (ended Kind.CrcMismatch) f e = cc
told_quiet no_beginning f e = cc

-- 3. heard in parts
pub heard_in_parts : (cap : ℕ) → HeardInParts cap
unfolding hear_of
heard_in_parts cap f g l m e = (
  λ h. ap hearing_of (cut_stopped cap false f g e l m (λ q. h (ap (λ (s : Said). heard_by s (read_of cap false f g l).bytes) q))),
  λ h. ap hearing_of (cut_going cap false f g e l m (told_quiet (read_of cap false f g l).said (read_of cap false f g l).bytes h)),
)
