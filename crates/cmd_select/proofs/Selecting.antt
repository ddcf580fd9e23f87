-- What a Select leaves, for its callers; and that two ids never both match a prefix as long as they are.
use mathlib.Core.Path.{◌≡◌, refl, ap, sym, ◌∙◌}
use mathlib.Core.Bool.{true, false}
use mathlib.Core.List.{List, ◌++◌, append_assoc}
use Prim.Native.Nat.{ℕ, ◌+◌, ◌*◌, ◌-◌, ◌%◌, ◌≤◌, ◌<◌}
use native.Mathlib.Omega.{arith}
use borrow.Author.Tests.{eqb-true, lt-leb}
use lib.Dec.{eqb}
use lib.ListN.{length, get_or, take, drop, length-append, length-drop}
use lib.Seq.{length-take-le, take_at, drop_at, get_or-take, get_or-drop, ext_get_or}
use Rattle.laws.proofs.Bools.{and_both}
use Rattle.std.specs.Prelude.{Option, Some, None}
use Rattle.cmd_select.specs.Select.{seed_of, bit_count_of, prefix_of, bit_at, agree, matches, slot_of, copied, Choice, select_of, choice_of}
use Rattle.cmd_select.proofs.PrefixBits.{every_agree, matches_every, every_matches}
use Rattle.cmd_select.proofs.PrefixBytes.{run}

-- the frame: its bytes are those with the id copied in, match or not
pub bytes_copied : (id f : List ℕ) → (select_of id f).bytes ≡ copied id f
unfolding select_of
bytes_copied id f = refl

module _ (id f : List ℕ) (fits : 10 + length id ≤ length f) where
  front : length (take 10 f ++ id) ≡ 10 + length id
  front = simp (length-append, length-take-le 10 f (omega arith))

  -- it is as long as it was
  pub copied-length : length (copied id f) ≡ length f
  unfolding copied
  copied-length = simp (length-append, length-take-le 10 f (omega arith), length-drop) (omega arith)

  -- header, then the id: what the reply's CRC is of, but for status and length
  pub copied_front : take (10 + length id) (copied id f) ≡ take 10 f ++ id
  unfolding copied
  copied_front = take_at (take 10 f ++ id) (drop (10 + length id) f) (10 + length id) front

  pub copied-header : take 10 (copied id f) ≡ take 10 f
  unfolding copied
  copied-header = rw append_assoc (take_at (take 10 f) (id ++ drop (10 + length id) f) 10 (length-take-le 10 f (omega arith)))

  -- the data area then starts with the id
  pub copied_id : take (length id) (drop 10 (copied id f)) ≡ id
  unfolding copied
  copied_id =
      rw (append_assoc, drop_at (take 10 f) (id ++ drop (10 + length id) f) 10 (length-take-le 10 f (omega arith)))
      (take_at id (drop (10 + length id) f) (length id) refl)

  pub copied_rest : drop (10 + length id) (copied id f) ≡ drop (10 + length id) f
  unfolding copied
  copied_rest = drop_at (take 10 f ++ id) (drop (10 + length id) f) (10 + length id) front

  -- the same byte by byte
  pub header-kept : (k : ℕ) → k < 10 → get_or (copied id f) k 0 ≡ get_or f k 0
  header-kept k h = sym (get_or-take 10 (copied id f) k 0 h) ∙ ap (λ (l : List ℕ). get_or l k 0) copied-header ∙ get_or-take 10 f k 0 h

  rest_at : (j : ℕ) → get_or (copied id f) (10 + length id + j) 0 ≡ get_or f (10 + length id + j) 0
  rest_at j =
      sym (get_or-drop (10 + length id) (copied id f) j 0) ∙ ap (λ (l : List ℕ). get_or l j 0) copied_rest ∙ get_or-drop (10 + length id) f j 0

  pub rest_kept : (k : ℕ) → 10 + length id ≤ k → get_or (copied id f) k 0 ≡ get_or f k 0
  rest_kept k h = let e : 10 + length id + (k - (10 + length id)) ≡ k = omega arith in rw e at (rest_at (k - (10 + length id)))

-- what each answer of the code says, from its contract
module _ (id f g : List ℕ) where
  pub told_yes : (w : ℕ) → choice_of (Some w) g ≡ select_of id f →
      (matches (bit_count_of f) id (prefix_of f) ≡ true) × (w ≡ slot_of (seed_of f) id) × (g ≡ copied id f)
  unfolding select_of
  told_yes w e =
      let m : matches (bit_count_of f) id (prefix_of f) ≡ true = sym (ap (λ (c : Choice). c.match) e) in
      (m, rw m at (ap (λ (c : Choice). c.wait) e), ap (λ (c : Choice). c.bytes) e)

  pub told_no : choice_of None g ≡ select_of id f → (matches (bit_count_of f) id (prefix_of f) ≡ false) × (g ≡ copied id f)
  unfolding select_of
  told_no e = (sym (ap (λ (c : Choice). c.match) e), ap (λ (c : Choice). c.bytes) e)

-- the wait is below 16
pub slot_small : (seed : ℕ) (id : List ℕ) → slot_of seed id < 16
unfolding slot_of
slot_small seed id = omega arith

-- a count of 0 always matches
pub zero_always : (id prefix : List ℕ) → matches 0 id prefix ≡ true
zero_always id prefix = every_matches 0 id prefix (omega arith) (λ k h. absurd (omega arith))

-- a count past the id never does, whatever the prefix
pub past_never : (count : ℕ) (id prefix : List ℕ) → 8 * length id < count → matches count id prefix ≡ false
unfolding matches
past_never count id prefix h = rw (lt-leb count (8 * length id) h)

-- a device answers to its own id, up to any count within it
pub own_always : (count : ℕ) (id : List ℕ) → count ≤ 8 * length id → matches count id id ≡ true
own_always count id h = every_matches count id id h (λ k l. refl)

abbrev pub Bytes : List ℕ → Type 0
Bytes l = (i : ℕ) → i < length l → get_or l i 0 < 256

-- two ids of one length that both match a prefix of all their bits are the same id: two modules never take one image
pub only_one : (a b p : List ℕ) → length a ≡ length b → Bytes a → Bytes b →
    matches (8 * length a) a p ≡ true → matches (8 * length a) b p ≡ true → a ≡ b
only_one a b p e ha hb ma mb = ext_get_or 0 a b e each
  where
    bits : (k : ℕ) → k < 8 * length a → bit_at k a ≡ bit_at k b
    bits k h = (matches_every (8 * length a) a p ma).1 k h ∙ sym ((matches_every (8 * length a) b p mb).1 k h)

    each : (i : ℕ) → i < length a → get_or a i 0 ≡ get_or b i 0
    each i h =
        let t : agree (8 * i + 8) a b ≡ true = every_agree (8 * i + 8) a b (λ k l. bits k (omega arith)) in
        let both = and_both (agree (8 * i) a b) (eqb (get_or a i 0 % 256) (get_or b i 0 % 256)) (sym (run a b i 8 (omega arith)) ∙ t) in
        let q : get_or a i 0 % 256 ≡ get_or b i 0 % 256 = eqb-true (get_or a i 0 % 256) (get_or b i 0 % 256) both.1 in
        omega (arith, ha i h, hb i (omega arith))

-- the same of two devices that hear one frame
pub only_one_selected : (a b f : List ℕ) → length a ≡ length b → Bytes a → Bytes b → bit_count_of f ≡ 8 * length a →
    (select_of a f).match ≡ true → (select_of b f).match ≡ true → a ≡ b
unfolding select_of
only_one_selected a b f e ha hb n ma mb = only_one a b (prefix_of f) e ha hb (rw n at ma) (rw n at mb)

-- the definition determines the answer and the frame: two results that it allows coincide
pub one_result : (r s : Option ℕ) (f g : List ℕ) → choice_of r f ≡ choice_of s g → (r ≡ s) × (f ≡ g)
one_result r s f g e = go r s (ap (λ (c : Choice). c.match) e) (ap (λ (c : Choice). c.wait) e) (ap (λ (c : Choice). c.bytes) e)
  where
    go : (r s : Option ℕ) → (choice_of r f).match ≡ (choice_of s g).match → (choice_of r f).wait ≡ (choice_of s g).wait →
        (choice_of r f).bytes ≡ (choice_of s g).bytes → (r ≡ s) × (f ≡ g)
    go (Some v) (Some w) m n b = (ap Some n, b)
    go (Some v) None m n b = (cc, cc)
    go None (Some w) m n b = (cc, cc)
    go None None m n b = (refl, b)
