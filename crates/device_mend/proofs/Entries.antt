-- The list is exactly the changed places, rising, and there are at most eight (02, E14).
use Prim.Native.Nat.{ℕ, zero, suc, ◌+◌, ◌-◌, ◌*◌, ◌<◌, ◌≤◌}
use mathlib.Core.Path.{◌≡◌, refl, sym, ap, subst, ◌∙◌}
use mathlib.Core.Bool.{Bool, true, false}
use mathlib.Core.List.{List, [], ◌∷◌, ◌++◌}
use native.Mathlib.Nat.{zero-add}
use native.Mathlib.Omega.{arith}
use lib.ListN.{length, get_or, drop, get_or-append}
use lib.Seq.{sets, sets-eq, get_or-append-add, get_or-drop}
use lib.Dec.{eqb}
use borrow.Author.Tests.{ne_eqb, eqb-false}
use Rattle.laws.specs.Pick.{pick}
use Rattle.store_record.specs.State.{state_read}
use Rattle.store_record.proofs.Whole.{Whole, cells, whole}
use Rattle.device_state.specs.declared.Setup.{Setup}
use Rattle.device_state.specs.Refusals.{set_up}
use Rattle.device_mend.specs.Mend.{low_ones, missized, mended, changes, changed, list_size, mend_of}
use Rattle.device_mend.specs.Exact.{place_in, before_in, after_in, Entry, Exact, Told}
use Rattle.device_mend.proofs.Mending.{empty_cells, kept_cells}
use Rattle.device_mend.proofs.Again.{mended-length, changed_none, mends}

-- the two ways of a byte
module _ (k o n : ℕ) (old new : List ℕ) where
  on_same : eqb o n ≡ true → (changes k (o ∷ old) (n ∷ new) ≡ changes (suc k) old new) × (changed (o ∷ old) (n ∷ new) ≡ changed old new)
  unfolding changes changed
  on_same e = (simp e, simp e)

  on_more : eqb o n ≡ false →
      (changes k (o ∷ old) (n ∷ new) ≡ k ∷ o ∷ n ∷ changes (suc k) old new) × (changed (o ∷ old) (n ∷ new) ≡ suc (changed old new))
  unfolding changes changed
  on_more e = (simp e, simp e)

none_left : (new : List ℕ) → changed [] new ≡ 0
unfolding changed
none_left new = refl

none_new : (o : ℕ) (old : List ℕ) → changed (o ∷ old) [] ≡ 0
unfolding changed
none_new o old = refl

-- entry i of the changes from place k on is that of place k + d
pub record At (k : ℕ) (old new list : List ℕ) (i d : ℕ) : Type 0 where
  pub place : place_in list i ≡ k + d
  pub inside : d < length old
  pub before : before_in list i ≡ get_or old d 0
  pub after : after_in list i ≡ get_or new d 0
  pub differ : get_or old d 0 ≡ get_or new d 0 → ⊥

-- behind a byte that is as it was, and behind one with an entry
past_same : (k o n : ℕ) (old new list : List ℕ) (i d : ℕ) → At (suc k) old new list i d → At k (o ∷ old) (n ∷ new) list i (suc d)
past_same k o n old new list i d a =
    record { place = omega (arith, a.place); inside = omega (arith, a.inside); before = a.before; after = a.after; differ = a.differ }

past_more : (k o n x y z : ℕ) (old new list : List ℕ) (i d : ℕ) → At (suc k) old new list i d → At k (o ∷ old) (n ∷ new) (x ∷ y ∷ z ∷ list) (suc i) (suc d)
past_more k o n x y z old new list i d a =
    let e : 3 * suc i ≡ suc (suc (suc (3 * i))) = omega arith in
    let f : 3 * suc i + 1 ≡ suc (suc (suc (3 * i + 1))) = omega arith in
    let g : 3 * suc i + 2 ≡ suc (suc (suc (3 * i + 2))) = omega arith in
    record {
      place = ap (λ (p : ℕ). get_or (x ∷ y ∷ z ∷ list) p 0) e ∙ omega (arith, a.place);
      inside = omega (arith, a.inside);
      before = ap (λ (p : ℕ). get_or (x ∷ y ∷ z ∷ list) p 0) f ∙ a.before;
      after = ap (λ (p : ℕ). get_or (x ∷ y ∷ z ∷ list) p 0) g ∙ a.after;
      differ = a.differ;
    }

place_past : (x y z : ℕ) (list : List ℕ) (i : ℕ) → place_in (x ∷ y ∷ z ∷ list) (suc i) ≡ place_in list i
place_past x y z list i = let e : 3 * suc i ≡ suc (suc (suc (3 * i))) = omega arith in ap (λ (p : ℕ). get_or (x ∷ y ∷ z ∷ list) p 0) e

-- the entry of the first byte
first_at : (k o n : ℕ) (old new list : List ℕ) → eqb o n ≡ false → At k (o ∷ old) (n ∷ new) (k ∷ o ∷ n ∷ list) 0 0
first_at k o n old new list e = record { place = omega arith; inside = omega arith; before = refl; after = refl; differ = eqb-false o n e }

-- each entry is of a byte that has changed
sound_at : (k : ℕ) (old new : List ℕ) (i : ℕ) → i < changed old new → (d : ℕ) × At k old new (changes k old new) i d
sound_at k [] new i h = absurd (omega (arith, none_left new))
sound_at k (o ∷ old) [] i h = absurd (omega (arith, none_new o old))
sound_at k (o ∷ old) (n ∷ new) i h = go (λ j. sound_at (suc k) old new j) (eqb o n) refl i h
  where
    go : ((j : ℕ) → j < changed old new → (d : ℕ) × At (suc k) old new (changes (suc k) old new) j d) → (t : Bool) → eqb o n ≡ t →
        (i : ℕ) → i < changed (o ∷ old) (n ∷ new) → (d : ℕ) × At k (o ∷ old) (n ∷ new) (changes k (o ∷ old) (n ∷ new)) i d
    go rest true e i h =
        let s = on_same k o n old new e in
        let r = rest i (omega (arith, s.1)) in
        (suc r.0, rw s.0 (past_same k o n old new (changes (suc k) old new) i r.0 r.1))
    go rest false e zero h = (0, rw (on_more k o n old new e).0 (first_at k o n old new (changes (suc k) old new) e))
    go rest false e (suc i) h =
        let s = on_more k o n old new e in
        let r = rest i (omega (arith, s.1)) in
        (suc r.0, rw s.0 (past_more k o n k o n old new (changes (suc k) old new) i r.0 r.1))

-- each byte that has changed has an entry
complete_at : (k : ℕ) (old new : List ℕ) → length old ≡ length new → (d : ℕ) → d < length old → (get_or old d 0 ≡ get_or new d 0 → ⊥) →
    (i : ℕ) × (i < changed old new) × At k old new (changes k old new) i d
complete_at k [] new l d h e = absurd (omega arith)
complete_at k (o ∷ old) [] l d h e = absurd (omega arith)
complete_at k (o ∷ old) (n ∷ new) l zero h e =
    let f = ne_eqb o n e in
    let s = on_more k o n old new f in
    (0, omega (arith, s.1), rw s.0 (first_at k o n old new (changes (suc k) old new) f))
complete_at k (o ∷ old) (n ∷ new) l (suc d) h e = go (eqb o n) refl (complete_at (suc k) old new (omega arith) d (omega arith) e)
  where
    go : (t : Bool) → eqb o n ≡ t → (i : ℕ) × (i < changed old new) × At (suc k) old new (changes (suc k) old new) i d →
        (i : ℕ) × (i < changed (o ∷ old) (n ∷ new)) × At k (o ∷ old) (n ∷ new) (changes k (o ∷ old) (n ∷ new)) i (suc d)
    go true f r =
        let s = on_same k o n old new f in
        (r.0, omega (arith, s.1, r.1), rw s.0 (past_same k o n old new (changes (suc k) old new) r.0 d r.2))
    go false f r =
        let s = on_more k o n old new f in
        (suc r.0, omega (arith, s.1, r.1), rw s.0 (past_more k o n k o n old new (changes (suc k) old new) r.0 d r.2))

-- places rise
rising_at : (k : ℕ) (old new : List ℕ) (i j : ℕ) → i < j → j < changed old new → place_in (changes k old new) i < place_in (changes k old new) j
rising_at k [] new i j g h = absurd (omega (arith, none_left new))
rising_at k (o ∷ old) [] i j g h = absurd (omega (arith, none_new o old))
rising_at k (o ∷ old) (n ∷ new) i j g h = go (λ x y. rising_at (suc k) old new x y) (eqb o n) refl i j g h
  where
    go : ((x y : ℕ) → x < y → y < changed old new → place_in (changes (suc k) old new) x < place_in (changes (suc k) old new) y) →
        (t : Bool) → eqb o n ≡ t → (i j : ℕ) → i < j → j < changed (o ∷ old) (n ∷ new) →
        place_in (changes k (o ∷ old) (n ∷ new)) i < place_in (changes k (o ∷ old) (n ∷ new)) j
    go rest true e i j g h = let s = on_same k o n old new e in rw s.0 (rest i j g (omega (arith, s.1)))
    go rest false e i zero g h = absurd (omega arith)
    go rest false e zero (suc j) g h =
        let s = on_more k o n old new e in
        let r = sound_at (suc k) old new j (omega (arith, s.1)) in
        rw s.0 (omega (arith, place_past k o n (changes (suc k) old new) j, r.1.place))
    go rest false e (suc i) (suc j) g h =
        let s = on_more k o n old new e in
        let r = rest i j (omega arith) (omega (arith, s.1)) in
        rw (s.0, place_past k o n (changes (suc k) old new) i, place_past k o n (changes (suc k) old new) j) r

-- three bytes an entry
changes-length : (k : ℕ) (old new : List ℕ) → length (changes k old new) ≡ 3 * changed old new
unfolding changes changed
changes-length k [] new = refl
changes-length k (o ∷ old) [] = refl
changes-length k (o ∷ old) (n ∷ new) = go (changes-length (suc k) old new) (eqb o n)
  where
    go : length (changes (suc k) old new) ≡ 3 * changed old new → (t : Bool) →
        length (pick t (changes (suc k) old new) (k ∷ o ∷ n ∷ changes (suc k) old new)) ≡ 3 * pick t (changed old new) (suc (changed old new))
    go e true = e
    go e false = omega (arith, e)

-- what ends alike changes in no more places than stand before that
changed_before : (p q z : List ℕ) → length p ≡ length q → changed (p ++ z) (q ++ z) ≤ length p
unfolding changed
changed_before [] [] z l = omega (arith, changed_none z)
changed_before [] (y ∷ q) z l = absurd (omega arith)
changed_before (x ∷ p) [] z l = absurd (omega arith)
changed_before (x ∷ p) (y ∷ q) z l = go (eqb x y) (changed_before p q z (omega arith))
  where
    go : (t : Bool) → changed (p ++ z) (q ++ z) ≤ length p → pick t (changed (p ++ z) (q ++ z)) (suc (changed (p ++ z) (q ++ z))) ≤ suc (length p)
    go true h = omega arith
    go false h = omega arith

few_cells : (capacity : ℕ) {m : List ℕ} → Whole m → (t : Bool) → missized capacity m ≡ t → changed m (mended capacity m) ≤ 8
few_cells capacity (cells a b c d e f g h i j k l) true w =
    rw (empty_cells capacity a b c d e f g h i j k l w)
    (changed_before (a ∷ b ∷ c ∷ d ∷ e ∷ f ∷ g ∷ h ∷ []) (0x7F ∷ low_ones b ∷ 0xFF ∷ 0xFF ∷ 0xFF ∷ 0xFF ∷ 0xFF ∷ 0xFF ∷ []) (i ∷ j ∷ k ∷ l ∷ []) refl)
few_cells capacity (cells a b c d e f g h i j k l) false w =
    rw (kept_cells capacity a b c d e f g h i j k l w)
    (changed_before (a ∷ b ∷ c ∷ d ∷ e ∷ f ∷ g ∷ h ∷ []) (state_read a ∷ low_ones b ∷ c ∷ d ∷ e ∷ f ∷ g ∷ h ∷ []) (i ∷ j ∷ k ∷ l ∷ []) refl)

-- at most eight bytes change
pub mended_few : (capacity : ℕ) (m : List ℕ) → length m ≡ 12 → changed m (mended capacity m) ≤ 8
mended_few capacity m n = few_cells capacity (whole m n) (missized capacity m) refl

-- bytes laid over a longer list: they are read, and past them the list is as it was
module _ (list vs : List ℕ) (h : length vs ≤ length list) where
  laid : sets list 0 vs ≡ vs ++ drop (length vs) list
  laid = let g : 0 + length vs ≤ length list = omega arith in sets-eq vs list 0 g ∙ rw (zero-add (length vs)) refl

  read_laid : (p : ℕ) → p < length vs → get_or (sets list 0 vs) p 0 ≡ get_or vs p 0
  read_laid p l = rw laid (get_or-append vs (drop (length vs) list) 0 p l)

  read_past : (p : ℕ) → length vs ≤ p → get_or (sets list 0 vs) p 0 ≡ get_or list p 0
  read_past p l =
      let e : p ≡ length vs + (p - length vs) = omega arith in
      rw (laid, e) (get_or-append-add vs (drop (length vs) list) (p - length vs) 0 ∙ get_or-drop (length vs) list (p - length vs) 0)

module _ (list old new : List ℕ) (l : length old ≡ length new) (r : 3 * changed old new ≤ length list) where
  abbrev listed : List ℕ
  listed = sets list 0 (changes 0 old new)

  room : length (changes 0 old new) ≤ length list
  room = omega (arith, changes-length 0 old new)

  reads : (i j : ℕ) → i < changed old new → j < 3 → get_or listed (3 * i + j) 0 ≡ get_or (changes 0 old new) (3 * i + j) 0
  reads i j h b = read_laid list (changes 0 old new) room (3 * i + j) (omega (arith, changes-length 0 old new))

  reads_place : (i : ℕ) → i < changed old new → place_in listed i ≡ place_in (changes 0 old new) i
  reads_place i h = read_laid list (changes 0 old new) room (3 * i) (omega (arith, changes-length 0 old new))

  entry_of : (i d : ℕ) → i < changed old new → At 0 old new (changes 0 old new) i d → Entry old new listed i d
  entry_of i d h a =
      record {
        place = omega (arith, reads_place i h, a.place);
        inside = a.inside;
        before = reads i 1 h (omega arith) ∙ a.before;
        after = reads i 2 h (omega arith) ∙ a.after;
        differ = a.differ;
      }

  exact_of : Exact old new listed (changed old new)
  exact_of =
      record {
        sound = λ i h. let s = sound_at 0 old new i h in let e = entry_of i s.0 h s.1 in subst (λ (k : ℕ). Entry old new listed i k) (sym e.place) e;
        complete = λ k h e. let s = complete_at 0 old new l k h e in (s.0, s.1, entry_of s.0 k s.1 s.2);
        rising = λ i j g h. rw (reads_place i (omega arith), reads_place j h) (rising_at 0 old new i j g h);
      }

  past : (p : ℕ) → 3 * changed old new ≤ p → get_or listed p 0 ≡ get_or list p 0
  past p h = read_past list (changes 0 old new) room p (omega (arith, changes-length 0 old new))

-- the theorem, of the call
pub mend_told : (page : ℕ) (s : Setup) (meta list : List ℕ) → set_up page s ≡ true → length meta ≡ 12 → list_size ≤ length list →
    Told meta list (mend_of page s meta list)
mend_told page s meta list g n l =
    let m = mended s.capacity meta in
    let f = mended_few s.capacity meta n in
    let b : 3 * changed meta m ≤ length list = omega (arith, f) in
    let e = sym (mended-length s.capacity meta) in
    rw (mends page s meta list g n l) (record { exact = exact_of list meta m e b; few = f; rest = past list meta m e b })
