-- There and back: a state that is written is read again as it was, and bytes that hold a state are written again as they were.
use Rattle.std.specs.Prelude.{Option, Some, None}
use Prim.Native.Nat.{ℕ, ◌+◌, ◌%◌, ◌^◌, ◌<◌, ◌≤◌}
use mathlib.Core.Path.{◌≡◌, refl, ap, sym, ◌∙◌}
use mathlib.Core.Bool.{Bool, true, false, ◌&&◌, ◌||◌}
use mathlib.Core.List.{List, [], ◌∷◌, ◌++◌}
use mathlib.Core.Logic.{◌⊎◌, inl, inr}
use native.Mathlib.Nat.{mod-eq_of_lt}
use native.Mathlib.Omega.{arith}
use lib.ListN.{length, get_or, take, drop, length-drop, take-append-drop}
use lib.Seq.{take_at, drop_at, drop-drop, get_or-drop, get_or-take, take_all, length-take-le}
use lib.Dec.{eqb, ltb, leb}
use borrow.Author.Tests.{ltb-true, leb-true}
use Rattle.laws.specs.Pick.{pick}
use Rattle.laws.specs.Low.{low_first, low_bytes}
use Rattle.laws.proofs.Low.{low_read, low_write}
use Rattle.laws.proofs.Bools.{and_both, or_either}
use Rattle.wire_frames.specs.Fields.{len_of}
use Rattle.wire_frames.specs.Reading.{verdict_of}
use Rattle.wire_frames.specs.declared.frame.Kind.{Kind}
use Rattle.wire_frames.specs.Stored.{goes, well_of}
use Rattle.wire_frames.proofs.Reading.{going_size}
use Rattle.device_state.specs.declared.Setup.{Setup}
use Rattle.device_state.specs.declared.Numbers.{Numbers}
use Rattle.device_state.specs.declared.State.{State}
use Rattle.device_state.specs.Refusals.{run_fits, well_formed}
use Rattle.device_state.specs.State.{World, state_with, numbered}
use Rattle.device_feed.specs.Feed.{Called, refusal_for, refused_by, taken_of, fed_of}
use Rattle.c_layout.specs.Layout.{part, setup_from, holds_state, numbers_from, state_from, flag_byte, number_bytes, part_bytes, state_bytes}
use Rattle.tinyboot_c.specs.Calls.{feed_refused, world_from}
use Rattle.tinyboot_c.proofs.Copies.{part_four}
use Rattle.tinyboot_c.specs.Inner.{laid}
use Rattle.c_layout.proofs.Holding.{holds_size, holds_flags}
use Rattle.c_layout.proofs.Flags.{flag_read, flag_write}

-- where the parts stand
module _ (f p n : List ℕ) (lf : length f ≡ 64) (lp : length p ≡ 64) where
  first_part : part 0 64 (part_bytes f p n) ≡ f
  first_part = take_at f (p ++ n) 64 lf

  behind : drop 64 (part_bytes f p n) ≡ p ++ n
  behind = drop_at f (p ++ n) 64 lf

  second-part : part 64 64 (part_bytes f p n) ≡ p
  second-part = ap (take 64) behind ∙ take_at p n 64 lp

  last-part : drop 128 (part_bytes f p n) ≡ n
  last-part = sym (drop-drop 64 64 (part_bytes f p n)) ∙ ap (drop 64) behind ∙ drop_at p n 64 lp

  number_at : (i : ℕ) → get_or (part_bytes f p n) (128 + i) 0 ≡ get_or n i 0
  number_at i = sym (get_or-drop 128 (part_bytes f p n) i 0) ∙ ap (λ (v : List ℕ). get_or v i 0) last-part

-- written, then read
module _ (f p : List ℕ) (lf : length f ≡ 64) (lp : length p ≡ 64) (m : Numbers) (hg : m.got < 256) (hf : m.fill < 256) (hn : m.next < 256 ^ 4) where
  abbrev n : List ℕ
  n = number_bytes m

  abbrev l : List ℕ
  l = part_bytes f p n

  next_read : low_first (part 128 4 l) ≡ m.next
  next_read = ap (λ (v : List ℕ). low_first (take 4 v)) (last-part f p n lf lp) ∙ low_read 4 m.next ∙ mod-eq_of_lt hn

  got_read : get_or l 132 0 ≡ m.got
  got_read = number_at f p n lf lp 4 ∙ mod-eq_of_lt hg

  fill_read : get_or l 133 0 ≡ m.fill
  fill_read = number_at f p n lf lp 5 ∙ mod-eq_of_lt hf

  selected_read : eqb (get_or l 134 0) 1 ≡ m.selected
  selected_read = ap (λ (v : ℕ). eqb v 1) (number_at f p n lf lp 6) ∙ flag_read m.selected

  closed_read : eqb (get_or l 135 0) 1 ≡ m.closed
  closed_read = ap (λ (v : ℕ). eqb v 1) (number_at f p n lf lp 7) ∙ flag_read m.closed

  numbers_read : numbers_from 52 64 l ≡ m
  numbers_read = numbers_same _ _ got_read _ _ fill_read _ _ next_read _ _ selected_read _ _ closed_read
    where
      numbers_same : (g g' : ℕ) → g ≡ g' → (w w' : ℕ) → w ≡ w' → (x x' : ℕ) → x ≡ x' → (s s' : Bool) → s ≡ s' → (c c' : Bool) → c ≡ c' →
          numbered g w x s c ≡ numbered g' w' x' s' c'
      numbers_same g g' eg w w' ew x x' ex s s' es c c' ec = rw (eg, ew, ex, es, ec) refl

  parts_read : state_from 52 64 l ≡ state_with f p m
  parts_read =
      ap (λ (v : List ℕ). state_with v (part 64 64 l) (numbers_from 52 64 l)) (first_part f p n lf lp) ∙
      ap (λ (v : List ℕ). state_with f v (numbers_from 52 64 l)) (second-part f p n lf lp) ∙ ap (state_with f p) numbers_read

pub written_read : (s : State) → length s.frame ≡ 64 → length s.page ≡ 64 → s.numbers.got < 256 → s.numbers.fill < 256 → s.numbers.next < 256 ^ 4 →
    state_from 52 64 (state_bytes s) ≡ s
written_read s lf lp hg hf hn = parts_read s.frame s.page lf lp s.numbers hg hf hn

-- read, then written
module _ (l : List ℕ) (h : holds_state 52 64 l ≡ true) (byte : (i : ℕ) → i < length l → get_or l i 0 < 256) where
  size : length l ≡ 136
  size = holds_size l h

  abbrev q : List ℕ
  q = part 128 4 l

  long : 4 ≤ length (drop 128 l)
  long = rw (length-drop 128 l, size) (omega arith)

  four : length q ≡ 4
  four = length-take-le 4 (drop 128 l) long

  q_byte : (i : ℕ) → i < length q → get_or q i 0 < 256
  q_byte i k =
      let k₄ : i < 4 = rw four at k in
      let w : 128 + i < length l = rw size (omega arith) in
      let e : get_or q i 0 ≡ get_or l (128 + i) 0 = get_or-take 4 (drop 128 l) i 0 k₄ ∙ get_or-drop 128 l i 0 in
      rw e (byte (128 + i) w)

  next_written : low_bytes 4 (low_first q) ≡ q
  next_written = ap (λ (k : ℕ). low_bytes k (low_first q)) (sym four) ∙ low_write q q_byte

  numbers_written : state_bytes (state_from 52 64 l) ≡ part 0 64 l ++ (part 64 64 l ++ (q ++ part 132 4 l))
  numbers_written =
      let g : get_or l 132 0 % 256 ≡ get_or l 132 0 = mod-eq_of_lt (byte 132 (rw size (omega arith))) in
      let w : get_or l 133 0 % 256 ≡ get_or l 133 0 = mod-eq_of_lt (byte 133 (rw size (omega arith))) in
      let flags = holds_flags l h in
      let s : flag_byte (eqb (get_or l 134 0) 1) ≡ get_or l 134 0 = flag_write (get_or l 134 0) flags.0 in
      let c : flag_byte (eqb (get_or l 135 0) 1) ≡ get_or l 135 0 = flag_write (get_or l 135 0) flags.1 in
      let r : part 132 4 l ≡ get_or l 132 0 ∷ get_or l 133 0 ∷ get_or l 134 0 ∷ get_or l 135 0 ∷ [] = part_four l 132 (rw size (omega arith)) in
      numbers_same _ _ (part 0 64 l) (part 64 64 l) next_written _ _ _ _ _ _ _ _ g w s c r
    where
      numbers_same : (x y a b : List ℕ) → x ≡ y → (g g' w w' s s' c c' : ℕ) → g ≡ g' → w ≡ w' → s ≡ s' → c ≡ c' → {z : List ℕ} → z ≡ g' ∷ w' ∷ s' ∷ c' ∷ [] →
          a ++ (b ++ (x ++ (g ∷ w ∷ s ∷ c ∷ []))) ≡ a ++ (b ++ (y ++ z))
      numbers_same x y a b e g g' w w' s s' c c' eg ew es ec {z} ez = rw (e, eg, ew, es, ec, ez) refl

  pub read_written : state_bytes (state_from 52 64 l) ≡ l
  read_written =
      let rest : part 132 4 l ≡ drop 132 l = take_all 4 (drop 132 l) (rw (length-drop 132 l, size) (omega arith)) in
      let three : q ++ part 132 4 l ≡ drop 128 l =
      ap (λ (v : List ℕ). q ++ v) (rest ∙ sym (drop-drop 4 128 l)) ∙ take-append-drop 4 (drop 128 l) in
      let two : part 64 64 l ++ drop 128 l ≡ drop 64 l =
      ap (λ (v : List ℕ). part 64 64 l ++ v) (sym (drop-drop 64 64 l)) ∙ take-append-drop 64 (drop 64 l) in
      numbers_written ∙ ap (λ (v : List ℕ). part 0 64 l ++ (part 64 64 l ++ v)) three ∙ ap (λ (v : List ℕ). part 0 64 l ++ v) two ∙ take-append-drop 64 l

-- a well-formed state has counts that fit a byte
goes_on : (v : Option Kind) → goes v ≡ true → v ≡ None
goes_on None e = refl
goes_on (Some k) e = cc

got_small : (f : List ℕ) (g : ℕ) → well_of 52 true f g ≡ true → g < 64
unfolding well_of
got_small f g e = last (or_either (leb g 9) (goes (verdict_of 52 true f) && ltb g (12 + len_of f)) y.1)
  where
    x : (leb g 0 || eqb (get_or f 0 0) 0xAA ≡ true) ×
        ((leb g 1 || eqb (get_or f 1 0) 0x55) && (leb g 9 || (goes (verdict_of 52 true f) && ltb g (12 + len_of f))) ≡ true)
    x =
        and_both (leb g 0 || eqb (get_or f 0 0) 0xAA)
        ((leb g 1 || eqb (get_or f 1 0) 0x55) && (leb g 9 || (goes (verdict_of 52 true f) && ltb g (12 + len_of f)))) e

    y : (leb g 1 || eqb (get_or f 1 0) 0x55 ≡ true) × (leb g 9 || (goes (verdict_of 52 true f) && ltb g (12 + len_of f)) ≡ true)
    y = and_both (leb g 1 || eqb (get_or f 1 0) 0x55) (leb g 9 || (goes (verdict_of 52 true f) && ltb g (12 + len_of f))) x.1

    last : (leb g 9 ≡ true) ⊎ (goes (verdict_of 52 true f) && ltb g (12 + len_of f) ≡ true) → g < 64
    last (inl w) = let k : g ≤ 9 = leb-true g 9 w in omega arith
    last (inr w) =
        let z = and_both (goes (verdict_of 52 true f)) (ltb g (12 + len_of f)) w in
        let i : g < 12 + len_of f = ltb-true g (12 + len_of f) z.1 in
        let s : len_of f ≤ 52 = going_size 52 true f (goes_on (verdict_of 52 true f) z.0) in
        omega (arith, i, s)

fill_small : (capacity fill next : ℕ) → run_fits 64 capacity fill next ≡ true → fill < 64
unfolding run_fits
fill_small capacity fill next e =
    ltb-true fill 64 (and_both (ltb fill 64) (pick (eqb next 0xFFFFFFFF) (eqb fill 0) (leb next capacity && eqb (next % 64) fill)) e).0

pub well_small : (setup : Setup) (s : State) → well_formed 52 64 setup s.frame s.numbers ≡ true → (s.numbers.got < 256) × (s.numbers.fill < 256)
unfolding well_formed
well_small setup s e =
    let two = and_both (run_fits 64 setup.capacity s.numbers.fill s.numbers.next) (well_of 52 true s.frame s.numbers.got) e in
    let g : s.numbers.got < 64 = got_small s.frame s.numbers.got two.1 in
    let f : s.numbers.fill < 64 = fill_small setup.capacity s.numbers.fill s.numbers.next two.0 in
    (omega (arith, g), omega (arith, f))

-- a call that the device refuses leaves every buffer but the answer's as it was
module _ (setup state bytes flash meta reply answer : List ℕ) where
  abbrev w : World
  w = world_from 52 64 state flash meta

  abbrev number : ℕ
  number = refusal_for 52 64 (setup_from setup) w reply

  pub refused_kept : holds_state 52 64 state ≡ true → ((i : ℕ) → i < length state → get_or state i 0 < 256) → eqb number 0 ≡ false →
      laid (fed_of 52 64 (setup_from setup) w bytes reply) answer ≡ feed_refused number state flash meta reply answer
  unfolding fed_of
  refused_kept h byte e =
      let x : Called = taken_of 52 64 (setup_from setup) w bytes reply in
      let y : Called = refused_by number w reply in
      ap (λ (t : Bool). laid (pick t x y) answer) e ∙ ap (λ (v : List ℕ). feed_refused number v flash meta reply answer) (read_written state h byte)
