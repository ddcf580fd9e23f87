-- What the desk's functions answer, case by case, over plain variables.
use Prim.Native.Nat.{ℕ, ◌+◌, ◌-◌, ◌<◌}
use mathlib.Core.Path.{◌≡◌, refl, ap, sym, ◌∙◌}
use mathlib.Core.Bool.{Bool, true, false, ◌&&◌}
use mathlib.Core.List.{List, [], ◌∷◌}
use native.Mathlib.Omega.{arith}
use borrow.Author.Tests.{ne_eqb, eq-eqb, eqb-true}
use lib.ListN.{length, get_or, take, drop, length-drop, drop_of_length-le}
use lib.Seq.{take_all, drop-cons}
use lib.Dec.{eqb, leb}
use Rattle.laws.specs.Low.{low_first}
use Rattle.laws.proofs.Bools.{and_both}
use Rattle.laws.proofs.Pick.{yes, no}
use Rattle.wire_info.specs.Info.{info_read}
use Rattle.wire_info.specs.declared.InfoData.{InfoData}
use Rattle.wire_frames.specs.Fields.{len_of, data_of, status_of}
use Rattle.wire_frames.specs.declared.frame.Stop.{Stop}
use Rattle.wire_frames.specs.Stored.{said_of, seen, read_of}
use Rattle.wire_frames.proofs.Parts.{part_of_whole}
use Rattle.desk_replies.specs.declared.Head.{Head}
use Rattle.desk_replies.specs.declared.Contents.{Contents}
use Rattle.desk_replies.specs.declared.Heard.{Heard}
use Rattle.desk_replies.specs.Replies.{head_of, info, verify, select, plain, contents_of, Told, request, reply, good_of, heard_by}
use Rattle.desk_replies.specs.Replies.{hearing_of, hear_of, hear_part_of, contents_to, told_of, hearing_to}

pub data_short : (f : List ℕ) (n : ℕ) → length f - 10 < n → take (length f - 10) (drop 10 f) ≡ take n (drop 10 f)
data_short f n h =
    let l : length (drop 10 f) ≡ length f - 10 = length-drop 10 f in
    take_all (length f - 10) (drop 10 f) (omega arith) ∙ sym (take_all n (drop 10 f) (omega arith))

pub data_part : (f : List ℕ) (n : ℕ) → take (10 + n - 10) (drop 10 f) ≡ take n (drop 10 f)
data_part f n = let k : 10 + n - 10 ≡ n = omega arith in rw k refl

-- the contents of data d, of which t, u and v are what the tests say
module _ (cmd len : ℕ) (d : List ℕ) where
  pub is_info : (t : Bool) → t ≡ (eqb cmd 0 && eqb len 18) → t ≡ true → (i : InfoData) → i ≡ info_read d → info i ≡ contents_of cmd len d
  unfolding contents_of
  is_info t e w i x = rw (← e, w) (ap info x)

  module _ (t : Bool) (e : t ≡ (eqb cmd 0 && eqb len 18)) (w : t ≡ false) where
    pub is_verify : (u : Bool) → u ≡ (eqb cmd 3 && eqb len 2) → u ≡ true → (c : ℕ) → c ≡ low_first d → verify c ≡ contents_of cmd len d
    unfolding contents_of
    is_verify u f y c x = rw (← e, w, ← f, y) (ap verify x)

    module _ (u : Bool) (f : u ≡ (eqb cmd 3 && eqb len 2)) (y : u ≡ false) (v : Bool) (g : v ≡ (eqb cmd 5 && (leb 1 len && leb len 16))) where
      pub is_select : v ≡ true → select d ≡ contents_of cmd len d
      unfolding contents_of
      is_select z = rw (← e, w, ← f, y, ← g, z) refl

      pub is_plain : v ≡ false → plain d ≡ contents_of cmd len d
      unfolding contents_of
      is_plain z = rw (← e, w, ← f, y, ← g, z) refl

-- what the tests say of the length
sized : (cmd len want size : ℕ) (t : Bool) → t ≡ (eqb cmd want && eqb len size) → t ≡ true → len ≡ size
sized cmd len want size t e w = eqb-true len size (and_both (eqb cmd want) (eqb len size) (sym e ∙ w)).1

pub info_data : (f : List ℕ) (cmd len : ℕ) (t : Bool) → t ≡ (eqb cmd 0 && eqb len 18) → t ≡ true → len ≡ len_of f → take 18 (drop 10 f) ≡ data_of f
info_data f cmd len t e w l =
    let n : 18 ≡ len_of f = sym (sized cmd len 0 18 t e w) ∙ l in
    ap (λ (k : ℕ). take k (drop 10 f)) n

pub crc_data : (f : List ℕ) (cmd len : ℕ) (t : Bool) → t ≡ (eqb cmd 3 && eqb len 2) → t ≡ true → len ≡ len_of f → length f ≡ 64 →
    low_first (get_or f 10 0 ∷ get_or f 11 0 ∷ []) ≡ low_first (data_of f)
crc_data f cmd len t e w l h =
    let n : 2 ≡ len_of f = sym (sized cmd len 3 2 t e w) ∙ l in
    let a : drop 10 f ≡ get_or f 10 0 ∷ get_or f 11 0 ∷ drop 12 f =
    drop-cons f 10 0 (omega arith) ∙ ap (λ (r : List ℕ). get_or f 10 0 ∷ r) (drop-cons f 11 0 (omega arith)) in
    let b : take 2 (drop 10 f) ≡ get_or f 10 0 ∷ get_or f 11 0 ∷ [] = rw a refl in
    sym (ap low_first (ap (λ (k : ℕ). take k (drop 10 f)) (sym n) ∙ b))

-- a good frame
module _ (f : List ℕ) (h : Head) (e : h ≡ head_of f) where
  pub good_request : h.status ≡ 0 → request h (take h.len (drop 10 f)) ≡ good_of f
  unfolding good_of
  good_request z =
      let s : status_of f ≡ 0 = sym (ap (λ (x : Head). x.status) e) ∙ z in
      ap (λ (x : Head). request x (take x.len (drop 10 f))) e ∙ yes (eqb (status_of f) 0) _ _ (eq-eqb (status_of f) 0 s)

  pub good-reply : (h.status ≡ 0 → ⊥) → (c : Contents) → contents_to c (data_of f) ≡ contents_of h.cmd h.len (data_of f) →
      reply h (contents_to c (take h.len (drop 10 f))) ≡ good_of f
  unfolding good_of
  good-reply z c k =
      let s : status_of f ≡ 0 → ⊥ = λ y. z (ap (λ (x : Head). x.status) e ∙ y) in
      ap (λ (x : Head). reply x (contents_to c (take x.len (drop 10 f)))) e ∙
      ap (reply (head_of f)) (k ∙ ap (λ (x : Head). contents_of x.cmd x.len (data_of f)) e) ∙
      no (eqb (status_of f) 0) _ _ (ne_eqb (status_of f) 0 s)

-- a call
pub heard_in : (cap : ℕ) (f : List ℕ) (g : ℕ) (l f' : List ℕ) (g' n : ℕ) (s : Stop) → seen f' g' n s ≡ read_of cap false f g l →
    (h : Heard) → told_of h f' ≡ heard_by (said_of s) f' → hearing_to f' g' n h ≡ hear_of cap f g l
unfolding hear_of
heard_in cap f g l f' g' n s e h w = ap (λ (t : Told). record { bytes = f'; got = g'; taken = n; told = t }) w ∙ ap hearing_of e

pub part_heard : (cap : ℕ) (f : List ℕ) (g : ℕ) (l : List ℕ) → length f ≡ 12 + cap → hear_part_of cap f g l ≡ hear_of cap f g l
unfolding hear_part_of hear_of
part_heard cap f g l h = ap hearing_of (part_of_whole cap false f g l h)
