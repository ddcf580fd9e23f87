-- What more bytes do to a frame begun, phase by phase.
use Rattle.std.specs.Prelude.{Option, Some, None}
use Prim.Native.Nat.{ℕ, ◌+◌, ◌-◌, ◌≤◌, ◌<◌}
use mathlib.Core.Path.{◌≡◌, refl, ap, sym, ◌∙◌}
use mathlib.Core.List.{List, [], ◌∷◌, ◌++◌, append-nil, append_assoc}
use mathlib.Core.Bool.{Bool, true, false}
use mathlib.Core.Logic.{inl, inr}
use native.Mathlib.Omega.{arith}
use borrow.Author.Tests.{ltb-true, ltb-false, lt-ltb, le-ltb, lt-leb, eqb-true, eqb-false, leb-true, leb-false}
use lib.ListN.{length, get_or, take, drop, set, length-append, length-drop}
use lib.Seq.{take_at, drop_at, length-take-le, paste, length_paste_head, drop-cons}
use lib.Dec.{ltb, leb, eqb}
use Rattle.wire_frames.specs.declared.frame.Kind.{Kind}
use Rattle.laws.specs.Pick.{pick}
use Rattle.wire_frames.specs.Fields.{len_of}
use Rattle.wire_frames.specs.Reading.{hunt, verdict_of, checked, Begun, Ended, started, from_hunt, read_frame}
use Rattle.wire_frames.proofs.Cut.{size_append, verdict_append, checked-append}
use Rattle.laws.specs.Over.{over}
use Rattle.wire_frames.specs.Stored.{begun, store, out_of, quiet, Well, hunted_of, wanted_of, After, Turned}
use Rattle.laws.proofs.Lists.{over-set, over-take, take_two}
use Rattle.wire_frames.proofs.Reading.{size_take, verdict_take, going_size, read_sync, Past, Open, open_begun}
use Rattle.wire_frames.proofs.Storing.{parts, store_short, store_crc, set_low, set_high, forget, begun-part, Held, held}

-- the bytes begun read as themselves, and stored again they change nothing
pub record Kept (cap : ℕ) (device : Bool) (f : List ℕ) (g : ℕ) : Type 0 where
  pub reads : read_frame cap device (begun cap f g) ≡ Begun (begun cap f g)
  pub count : length (begun cap f g) ≡ g
  pub stored : store cap f (begun cap f g) ≡ f

pub hunted_small : (g b : ℕ) → hunted_of g b < 10
hunted_small g b = go (eqb g 1) (eqb b 0x55) (eqb b 0xAA)
  where
    go : (t u v : Bool) → pick t (pick u 2 (pick v 1 0)) (pick v 1 0) < 10
    go true true v = omega arith
    go true false true = omega arith
    go true false false = omega arith
    go false u true = omega arith
    go false u false = omega arith

module _ (cap : ℕ) (device : Bool) (f : List ℕ) (g : ℕ) (w : Well cap device f g) where
  pub well_low : (k : ℕ) → k < 10 → Well cap device f k
  well_low k h = record { whole = w.whole; synced = w.synced; going = λ l. absurd (omega arith); inside = λ l. absurd (omega arith) }

  pub well_small : g ≤ 11 + cap
  well_small = go (ltb g 10) refl
    where
      go : (t : Bool) → ltb g 10 ≡ t → g ≤ 11 + cap
      go true e = let u : g < 10 = ltb-true _ _ e in omega arith
      go false e =
          let h : 10 ≤ g = ltb-false _ _ e in
          let s : len_of f ≤ cap = going_size cap device f (w.going h) in
          omega (arith, w.inside h)

  pub begun_0 : begun cap f 0 ≡ []
  begun_0 = begun-part cap f 0 (omega arith)

  pub begun_1 : begun cap f 1 ≡ 0xAA ∷ []
  begun_1 = begun-part cap f 1 (omega arith) ∙ ap (take 1) w.synced

  begun_2 : begun cap f 2 ≡ 0xAA ∷ 0x55 ∷ []
  begun_2 = begun-part cap f 2 (omega arith) ∙ ap (take 2) w.synced

  hunt_reads : (b : ℕ) (l : List ℕ) → g < 2 → read_frame cap device (begun cap f g ++ (b ∷ l)) ≡ read_frame cap device (begun cap f (hunted_of g b) ++ l)
  unfolding hunt
  hunt_reads b l h = go (eqb g 1) (eqb b 0x55) (eqb b 0xAA) refl refl refl
    where
      go : (t u v : Bool) → eqb g 1 ≡ t → eqb b 0x55 ≡ u → eqb b 0xAA ≡ v →
          read_frame cap device (begun cap f g ++ (b ∷ l)) ≡ read_frame cap device (begun cap f (hunted_of g b) ++ l)
      go true true v x y z = let e : g ≡ 1 = eqb-true _ _ x in let d : b ≡ 0x55 = eqb-true _ _ y in rw (e, d, begun_1, begun_2) refl
      go true false true x y z = let e : g ≡ 1 = eqb-true _ _ x in simp (x, y, z) (rw (e, begun_1) (simp (y, z)))
      go true false false x y z = let e : g ≡ 1 = eqb-true _ _ x in simp (x, y, z) (rw (e, begun_1, begun_0) (simp (y, z)))
      go false u true x y z =
          let e : g ≡ 0 = omega (arith, eqb-false g 1 x) in simp (x, z) (rw (e, begun_1, begun_0) (ap (λ (t : Bool). from_hunt cap device (hunt t l)) z))
      go false u false x y z =
          let e : g ≡ 0 = omega (arith, eqb-false g 1 x) in simp (x, z) (rw (e, begun_0) (ap (λ (t : Bool). from_hunt cap device (hunt t l)) z))

  pub hunt_step : (b : ℕ) → g < 2 → After cap device f g (b ∷ []) f (hunted_of g b) None
  hunt_step b h = (well_low (hunted_of g b) (hunted_small g b), λ l n. ap (out_of cap f n) (hunt_reads b l h))

  -- the bytes x make p of the bytes begun, and f' holds p
  more : (x p m f' : List ℕ) (g' : ℕ) → begun cap f g ++ x ≡ p → p ≡ 0xAA ∷ 0x55 ∷ m → length p ≡ g' → Open cap device p → f' ≡ store cap f p →
      After cap device f g x f' g' None
  more x p m f' g' e s c o t =
      let k : Held cap device (store cap f p) p = held cap device f w.whole p m s o in
      rw (t, ← c) (
        k.well,
        λ l n.
            let a : begun cap f g ++ (x ++ l) ≡ p ++ l = sym (append_assoc (begun cap f g) x l) ∙ ap (λ (z : List ℕ). z ++ l) e in
            rw (a, k.same) (forget cap device f w.whole p m s o l n),
      )

  -- they end the frame
  done : (x p m f' : List ℕ) (k : Kind) → begun cap f g ++ x ≡ p → p ≡ 0xAA ∷ 0x55 ∷ m → ((l : List ℕ) → started cap device (p ++ l) ≡ Ended k p l) →
      f' ≡ store cap f p → After cap device f g x f' 0 (Some k)
  done x p m f' k e s o t l n =
      let a : begun cap f g ++ (x ++ l) ≡ p ++ l = sym (append_assoc (begun cap f g) x l) ∙ ap (λ (z : List ℕ). z ++ l) e in
      rw (a, t, read_sync cap device p m l s, o l) refl

  module _ (h : 2 ≤ g) (x : List ℕ) where
    sync-part : (k : ℕ) → 2 ≤ k → take k f ++ x ≡ 0xAA ∷ 0x55 ∷ (take (k - 2) (drop 2 f) ++ x)
    sync-part k i = ap (λ (z : List ℕ). take k z ++ x) w.synced ∙ rw (take_two 0xAA 0x55 k (drop 2 f) i) refl

    -- header and data
    pub laid : g ≤ 10 + len_of f → g + length x ≤ 10 + cap → Open cap device (take g f ++ x) → g + length x ≤ 10 + len_of (take g f ++ x) →
        After cap device f g x (over (take g f ++ x) f) (g + length x) None
    laid i j o k =
        let p : List ℕ = take g f ++ x in
        let z : length f ≡ 12 + cap = w.whole in
        let n : length p ≡ g + length x = simp (length-append, length-take-le g f (omega arith)) in
        more x p (take (g - 2) (drop 2 f) ++ x) (over p f) (g + length x) (ap (λ (y : List ℕ). y ++ x) (begun-part cap f g i)) (sync-part g h) n o
        (sym (store_short cap f z p (omega arith) (omega arith)))

  -- m of the bytes at hand, laid where they belong
  run_turn : (l : List ℕ) (i m : ℕ) → 0 < m → i + m ≤ length l → g + m ≤ 12 + cap →
      After cap device f g (take m (drop i l)) (over (take g f ++ take m (drop i l)) f) (g + length (take m (drop i l))) None →
      Turned cap device f g l i (paste f g (drop i l) m) (g + m) m None
  run_turn l i m z a b s =
      let n : length (drop i l) ≡ length l - i = length-drop i l in
      let c : length (take m (drop i l)) ≡ m = length-take-le m (drop i l) (omega arith) in
      let e : length (take g f ++ take m (drop i l)) ≡ g + m = length_paste_head f g (drop i l) m (omega (arith, w.whole)) (omega arith) in
      record { after = rw (c, e) at s; some = z; within = a }

  -- the header, but for its last byte
  header-run : (x : List ℕ) → 2 ≤ g → g + length x ≤ 9 → After cap device f g x (over (take g f ++ x) f) (g + length x) None
  header-run x h i =
      let n : length (take g f ++ x) ≡ g + length x = simp (length-append, length-take-le g f (omega (arith, w.whole))) in
      laid h x (omega arith) (omega arith) (inl (omega arith)) (omega arith)

  pub header_step : (b : ℕ) → 2 ≤ g → g < 9 → After cap device f g (b ∷ []) (set f g b) (g + 1) None
  header_step b h i = rw (← over-set f g b (omega (arith, w.whole))) (header-run (b ∷ []) h (omega arith))

  header_turn : (l : List ℕ) (i m : ℕ) → 0 < m → i + m ≤ length l → 2 ≤ g → g + m ≤ 9 → Turned cap device f g l i (paste f g (drop i l) m) (g + m) m None
  header_turn l i m z a h b =
      let n : length (drop i l) ≡ length l - i = length-drop i l in
      let c : length (take m (drop i l)) ≡ m = length-take-le m (drop i l) (omega arith) in
      run_turn l i m z a (omega arith) (header-run (take m (drop i l)) h (omega arith))

  -- the header's last byte
  module _ (b : ℕ) (e : g ≡ 9) where
    abbrev last : List ℕ
    last = take g f ++ (b ∷ [])

    last-length : length last ≡ 10
    last-length = simp (length-append, length-take-le g f (omega (arith, w.whole))) (omega arith)

    last-over : set f g b ≡ over last f
    last-over = sym (over-set f g b (omega (arith, w.whole)))

    last_verdict : verdict_of cap device (set f g b) ≡ verdict_of cap device last
    last_verdict = rw last-over (verdict_append cap device last (drop (length last) f) (omega (arith, last-length)))

    pub passed_step : verdict_of cap device (set f g b) ≡ None → After cap device f g (b ∷ []) (set f g b) (g + 1) None
    passed_step v =
        let o : Past cap device last = record { long = omega (arith, last-length); passed = sym last_verdict ∙ v; short = omega (arith, last-length) } in
        rw last-over (laid (omega arith) (b ∷ []) (omega arith) (omega arith) (inr o) (omega arith))

    pub refused_step : (k : Kind) → verdict_of cap device (set f g b) ≡ Some k → After cap device f g (b ∷ []) (set f g b) 0 (Some k)
    unfolding started
    refused_step k v =
        let u : verdict_of cap device last ≡ Some k = sym last_verdict ∙ v in
        done (b ∷ []) last (take (g - 2) (drop 2 f) ++ (b ∷ [])) (set f g b) k
        (ap (λ (y : List ℕ). y ++ (b ∷ [])) (begun-part cap f g (omega arith)))
        (sync-part (omega arith) (b ∷ []) g (omega arith))
        (λ l.
        let n : length (last ++ l) ≡ 10 + length l = length-append last l ∙ ap (λ (i : ℕ). i + length l) last-length in
        rw (
          le-ltb (length (last ++ l)) 10 (omega arith),
          verdict_append cap device last l (omega (arith, last-length)),
          u,
          take_at last l 10 last-length,
          drop_at last l 10 last-length,
        ) refl)
        (last-over ∙ sym (store_short cap f w.whole last (omega (arith, last-length)) (omega (arith, last-length))))

  -- past a header that passed
  module _ (h : 10 ≤ g) where
    small : len_of f ≤ cap
    small = going_size cap device f (w.going h)

    part_length : (k : ℕ) → k ≤ 12 + cap → length (take k f) ≡ k
    part_length k i = length-take-le k f (omega (arith, w.whole))

    part_size : (x : List ℕ) (k : ℕ) → 10 ≤ k → k ≤ 12 + cap → len_of (take k f ++ x) ≡ len_of f
    part_size x k i j =
        size_append cap device (take k f) x (omega (arith, part_length k j)) ∙ size_take cap device k f i (omega (arith, w.whole))

    part_verdict : (x : List ℕ) (k : ℕ) → 10 ≤ k → k ≤ 12 + cap → verdict_of cap device (take k f ++ x) ≡ None
    part_verdict x k i j =
        verdict_append cap device (take k f) x (omega (arith, part_length k j)) ∙
        verdict_take cap device k f i (omega (arith, w.whole)) ∙
        w.going h

    part_past : (x : List ℕ) (k : ℕ) → 10 ≤ k → k ≤ 12 + cap → k + length x < 12 + len_of f → Past cap device (take k f ++ x)
    part_past x k i j l =
        let n : length (take k f ++ x) ≡ k + length x = simp (length-append, part_length k j) in
        record { long = omega arith; passed = part_verdict x k i j; short = rw (n, part_size x k i j) l }

    -- data
    pub data_step : (x : List ℕ) → g + length x ≤ 10 + len_of f → After cap device f g x (over (take g f ++ x) f) (g + length x) None
    data_step x l =
        let s : len_of f ≤ cap = small in
        let z : len_of (take g f ++ x) ≡ len_of f = part_size x g h (omega arith) in
        laid (omega arith) x (omega arith) (omega arith) (inr (part_past x g h (omega arith) (omega arith))) (omega arith)

    -- m of the bytes at hand, as many as are wanted or fewer
    data_turn : (l : List ℕ) (i m : ℕ) → 0 < m → i + m ≤ length l → g + m ≤ 10 + len_of f →
        Turned cap device f g l i (paste f g (drop i l) m) (g + m) m None
    data_turn l i m z a b =
        let s : len_of f ≤ cap = small in
        let n : length (drop i l) ≡ length l - i = length-drop i l in
        let c : length (take m (drop i l)) ≡ m = length-take-le m (drop i l) (omega arith) in
        run_turn l i m z a (omega arith) (data_step (take m (drop i l)) (omega arith))

    -- the CRC's low byte
    pub low_step : (b : ℕ) → g ≡ 10 + len_of f → After cap device f g (b ∷ []) (set f (10 + cap) b) (g + 1) None
    low_step b e =
        let s : len_of f ≤ cap = small in
        let k : ℕ = 10 + len_of f in
        let p : List ℕ = take k f ++ (b ∷ []) in
        more (b ∷ []) p (take (k - 2) (drop 2 f) ++ (b ∷ [])) (set f (10 + cap) b) (g + 1)
        (ap (λ (y : List ℕ). y ++ (b ∷ [])) (begun-part cap f g (omega arith) ∙ ap (λ (i : ℕ). take i f) e))
        (sync-part (omega arith) (b ∷ []) k (omega arith))
        (simp (length-append, part_length k (omega arith)) (omega arith))
        (inr (part_past (b ∷ []) k (omega arith) (omega arith) (omega arith)))
        (set_low cap f w.whole b ∙ sym (store_crc cap f w.whole (b ∷ []) s))

    -- the CRC's high byte
    pub high_step : (b : ℕ) → g ≡ 11 + len_of f →
        After cap device f g (b ∷ []) (set f (11 + cap) b) 0 (Some (checked device (take (10 + len_of f) f ++ (get_or f (10 + cap) 0 ∷ b ∷ []))))
    unfolding begun started
    high_step b e =
        let s : len_of f ≤ cap = small in
        let k : ℕ = 10 + len_of f in
        let x : List ℕ = get_or f (10 + cap) 0 ∷ b ∷ [] in
        let p : List ℕ = take k f ++ x in
        let n : length p ≡ 12 + len_of f = simp (length-append, part_length k (omega arith)) (omega arith) in
        let z : len_of p ≡ len_of f = part_size x k (omega arith) (omega arith) in
        let v : verdict_of cap device p ≡ None = part_verdict x k (omega arith) (omega arith) in
        done (b ∷ []) p (take (k - 2) (drop 2 f) ++ x) (set f (11 + cap) b) (checked device p)
        (simp (lt-leb g (10 + len_of f) (omega arith), append_assoc))
        (sync-part (omega arith) x k (omega arith))
        (λ l.
        let y : length (p ++ l) ≡ 12 + len_of f + length l = length-append p l ∙ ap (λ (i : ℕ). i + length l) n in
        let i : len_of (p ++ l) ≡ len_of f = size_append cap device p l (omega arith) ∙ z in
        let j : verdict_of cap device (p ++ l) ≡ None = verdict_append cap device p l (omega arith) ∙ v in
        let c : checked device (p ++ l) ≡ checked device p = checked-append cap device p l (omega arith) (omega arith) in
        rw (
          le-ltb (length (p ++ l)) 10 (omega arith),
          j,
          le-ltb (length (p ++ l)) (12 + len_of (p ++ l)) (omega arith),
          c,
          i,
          take_at p l (12 + len_of f) n,
          drop_at p l (12 + len_of f) n,
        ) refl)
        (set_high cap f w.whole b ∙ sym (store_crc cap f w.whole x s))

  -- where nothing is wanted past the header, the data are there
  pub wanted_last : wanted_of f g ≡ 0 → 2 ≤ g → g < 10 → g ≡ 9
  wanted_last e h k = let z : 9 - g ≡ 0 = rw (le-ltb g 2 h, lt-ltb g 10 k) at e in omega arith

  pub wanted_none : wanted_of f g ≡ 0 → 10 ≤ g → 10 + len_of f ≤ g
  wanted_none e h = let z : 10 + len_of f - g ≡ 0 = rw (le-ltb g 2 (omega arith), le-ltb g 10 h) at e in omega arith

  -- as many bytes as are wanted and at hand
  module _ (l : List ℕ) (i m : ℕ) (a : i < length l) (z : wanted_of f g ≡ 0 → ⊥)
      (e : m ≡ pick (leb (wanted_of f g) (length l - i)) (wanted_of f g) (length l - i)) where
    few : (0 < m) × (m ≤ wanted_of f g) × (m ≤ length l - i)
    few = go (leb (wanted_of f g) (length l - i)) refl
      where
        go : (t : Bool) → leb (wanted_of f g) (length l - i) ≡ t → (0 < m) × (m ≤ wanted_of f g) × (m ≤ length l - i)
        go true u = let k : wanted_of f g ≤ length l - i = leb-true _ _ u in let y : m ≡ wanted_of f g = rw u at e in (omega arith, omega arith, omega arith)
        go false u = let k : length l - i < wanted_of f g = leb-false _ _ u in let y : m ≡ length l - i = rw u at e in (omega arith, omega arith, omega arith)

    -- of the header or of the data
    side : (P : Type 0) → (2 ≤ g → g + m ≤ 9 → P) → (10 ≤ g → g + m ≤ 10 + len_of f → P) → P
    side P p q = go (ltb g 2) (ltb g 10) refl refl
      where
        go : (t u : Bool) → ltb g 2 ≡ t → ltb g 10 ≡ u → P
        go true u x y = absurd (z (rw x refl))
        go false true x y = let k : wanted_of f g ≡ 9 - g = rw (x, y) refl in p (ltb-false _ _ x) (omega (arith, few))
        go false false x y =
            let k : wanted_of f g ≡ 10 + len_of f - g = rw (x, y) refl in q (ltb-false _ _ y) (omega (arith, few, ltb-false g 10 y))

    pub wanted_fits : (length f ≡ 12 + cap) × (g + m ≤ 12 + cap) × (i + m ≤ length l)
    wanted_fits = (
      w.whole,
      side (g + m ≤ 12 + cap) (λ h k. omega arith) (λ h k. let s : len_of f ≤ cap = small h in omega arith),
      omega (arith, few),
    )

    pub wanted_turn : Turned cap device f g l i (paste f g (drop i l) m) (g + m) m None
    wanted_turn =
        side (Turned cap device f g l i (paste f g (drop i l) m) (g + m) m None)
        (λ h k. header_turn l i m few.0 (omega (arith, few)) h k)
        (λ h k. data_turn h l i m few.0 (omega (arith, few)) k)

  -- one byte that is not data
  pub byte_turn : (l : List ℕ) (i : ℕ) → i < length l → (f' : List ℕ) (g' : ℕ) (end : Option Kind) → After cap device f g (get_or l i 0 ∷ []) f' g' end →
      Turned cap device f g l i f' g' 1 end
  byte_turn l i h f' g' end a =
      let e : take 1 (drop i l) ≡ get_or l i 0 ∷ [] = rw (drop-cons l i 0 h) refl in
      record { after = rw e a; some = omega arith; within = omega arith }

  still : (p : List ℕ) → begun cap f g ≡ p → length p ≡ g → store cap f p ≡ f → read_frame cap device p ≡ Begun p → Kept cap device f g
  still p b c s r = record { reads = rw b r; count = rw b c; stored = rw b s }

  still_part : g ≤ 10 + cap → g ≤ 10 + len_of f → g ≤ 10 + len_of (take g f) → read_frame cap device (take g f) ≡ Begun (take g f) →
      Kept cap device f g
  still_part h i j r =
      let c : length (take g f) ≡ g = length-take-le g f (omega (arith, w.whole)) in
      still (take g f) (begun-part cap f g i) c
      (store_short cap f w.whole (take g f) (omega arith) (omega arith) ∙ over-take f g (omega (arith, w.whole))) r

  still_open : (p m : List ℕ) → p ≡ 0xAA ∷ 0x55 ∷ m → Open cap device p → read_frame cap device p ≡ Begun p
  still_open p m s o = rw append-nil at (read_sync cap device p m [] s) ∙ open_begun cap device p o

  pub kept : Kept cap device f g
  unfolding hunt begun
  kept = a (ltb g 2) refl
    where
      d : (t : Bool) → leb g (10 + len_of f) ≡ t → 10 ≤ g → Kept cap device f g
      d true e h =
          let u : g ≤ 10 + len_of f = leb-true _ _ e in
          let s : len_of f ≤ cap = small h in
          let z : len_of (take g f) ≡ len_of f = size_take cap device g f h (omega (arith, w.whole)) in
          still_part (omega arith) u (omega arith)
          (rw append-nil at (still_open (take g f ++ []) (take (g - 2) (drop 2 f) ++ []) (sync-part (omega arith) [] g (omega arith))
          (inr (part_past h [] g h (omega arith) (omega arith)))))
      d false e h =
          let u : 10 + len_of f < g = leb-false _ _ e in
          let s : len_of f ≤ cap = small h in
          let i : g ≡ 11 + len_of f = omega (arith, w.inside h) in
          let x : List ℕ = get_or f (10 + cap) 0 ∷ [] in
          let k : ℕ = 10 + len_of f in
          still (take k f ++ x) (simp e) (simp (length-append, part_length h k (omega arith)) (omega arith))
          (store_crc cap f w.whole x s ∙ sym (parts cap f w.whole))
          (still_open (take k f ++ x) (take (k - 2) (drop 2 f) ++ x) (sync-part (omega arith) x k (omega arith))
          (inr (part_past h x k (omega arith) (omega arith) (omega arith))))

      b : (t : Bool) → ltb g 10 ≡ t → 2 ≤ g → Kept cap device f g
      b true e h =
          let u : g < 10 = ltb-true _ _ e in
          let c : length (take g f ++ []) < 10 = simp (append-nil, length-take-le g f (omega (arith, w.whole))) u in
          still_part (omega arith) (omega arith) (omega arith)
          (rw append-nil at (still_open (take g f ++ []) (take (g - 2) (drop 2 f) ++ []) (sync-part h [] g h) (inl c)))
      b false e h = d (leb g (10 + len_of f)) refl (ltb-false _ _ e)

      z : (t : Bool) → eqb g 0 ≡ t → g < 2 → Kept cap device f g
      z true e h = let u : g ≡ 0 = eqb-true _ _ e in still_part (omega arith) (omega arith) (omega arith) (rw u refl)
      z false e h =
          let u : g ≡ 1 = omega (arith, eqb-false g 0 e) in
          let v : take g f ≡ 0xAA ∷ [] = rw u (ap (take 1) w.synced) in
          still_part (omega arith) (omega arith) (omega arith) (rw v refl)

      a : (t : Bool) → ltb g 2 ≡ t → Kept cap device f g
      a true e = z (eqb g 0) refl (ltb-true _ _ e)
      a false e = b (ltb g 10) refl (ltb-false _ _ e)

  -- where no more bytes come, all is as it stands
  pub stays : (n : ℕ) → out_of cap f n (read_frame cap device (begun cap f g ++ [])) ≡ record { bytes = f; got = g; taken = n; said = quiet }
  stays n =
      let k : Kept cap device f g = kept in
      let a : read_frame cap device (begun cap f g ++ []) ≡ Begun (begun cap f g) = rw append-nil k.reads in
      rw a (cc)
