-- What is sent is read, whatever follows: a frame with its CRC laid, put to a reader that waits.
use Rattle.std.specs.Prelude.{None}
use Prim.Native.Nat.{ℕ, suc, ◌+◌, ◌-◌, ◌/◌, ◌%◌, ◌≤◌, ◌<◌}
use mathlib.Core.Path.{◌≡◌, refl, ap, sym, ◌∙◌}
use mathlib.Core.List.{List, [], ◌∷◌, ◌++◌, append_assoc}
use mathlib.Core.Bool.{Bool, true, false}
use mathlib.Core.Logic.{◌⊎◌, inl, inr}
use native.Mathlib.Omega.{arith}
use borrow.Author.Tests.{le-ltb, eq-eqb}
use lib.ListN.{length, get_or, take, drop, length-append, drop_of_length-le, get_or-append}
use lib.Seq.{take_all, take_at, take-suc, take-add, take-append-le, drop_at, drop-append-le, get_or-take, length-take-le}
use Rattle.laws.specs.Low.{low_first, low_bytes}
use Rattle.wire_numbers.specs.Crc.{crc_of}
use Rattle.wire_numbers.proofs.Serial.{crc_small}
use Rattle.wire_numbers.proofs.Bytes.{read_back}
use Rattle.wire_frames.specs.declared.frame.Kind.{Kind}
use Rattle.wire_frames.specs.Fields.{cmd_of, status_of, len_of, data_of}
use Rattle.wire_frames.specs.Reading.{hunt, overhears, verdict_of, checked, started, Ended, read_frame}
use Rattle.wire_frames.specs.Stored.{begun, ready, store, ended, well_of, read_of}
use Rattle.wire_frames.proofs.Cut.{size_append, verdict_append, started_ended}
use Rattle.wire_frames.proofs.Reading.{size_take, verdict_take, verdict_fields, header-going, read_sync, checked_at}
use Rattle.wire_frames.proofs.Storing.{begun-part}
use Rattle.wire_sender.specs.Sent.{wire}
use Rattle.theorem_desk.specs.Desk.{Waiting}

crc_back : (l : List ℕ) → low_first (low_bytes 2 (crc_of l)) ≡ crc_of l
crc_back l = read_back 2 (crc_of l) (crc_small 0xFFFF l (omega arith))

-- an AA before a frame's own
lead : (cap : ℕ) (device : Bool) (p m l : List ℕ) → p ≡ 0xAA ∷ 0x55 ∷ m → read_frame cap device (0xAA ∷ (p ++ l)) ≡ read_frame cap device (p ++ l)
unfolding hunt
lead cap device p m l e = rw e refl

-- what of a frame f stands where n bytes of its data and all before them stand
module _ (f x : List ℕ) (n : ℕ) (e : len_of f ≡ n) (h : 10 + n ≤ length f) where
  abbrev front : List ℕ
  front = take (10 + n) f

  front_long : length front ≡ 10 + n
  front_long = length-take-le (10 + n) f h

  pub at : (i : ℕ) → i < 10 → get_or (front ++ x) i 0 ≡ get_or f i 0
  at i k = get_or-append front x 0 i (omega (arith, front_long)) ∙ get_or-take (10 + n) f i 0 (omega arith)

  pub same_size : len_of (front ++ x) ≡ n
  same_size = simp (at 8 (omega arith), at 9 (omega arith)) e

  pub same_load : data_of (front ++ x) ≡ take n (drop 10 f)
  same_load =
      let t : length (take 10 f) ≡ 10 = length-take-le 10 f (omega arith) in
      let d : drop 10 front ≡ take n (drop 10 f) = ap (drop 10) (take-add 10 n f) ∙ drop_at (take 10 f) (take n (drop 10 f)) 10 t in
      let l : length (take 10 f) + length (take n (drop 10 f)) ≡ 10 + n = sym (length-append (take 10 f) (take n (drop 10 f))) ∙
      ap length (sym (take-add 10 n f)) ∙ front_long in
      ap (λ (k : ℕ). take k (drop 10 (front ++ x))) same_size ∙
      ap (take n) (drop-append-le 10 front x (omega (arith, front_long)) ∙ ap (λ (y : List ℕ). y ++ x) d) ∙
      take-append-le n (take n (drop 10 f)) x (omega arith) ∙ take_all n (take n (drop 10 f)) (omega arith)

module _ (cap : ℕ) (device : Bool) (f m : List ℕ) (n : ℕ) (s : f ≡ 0xAA ∷ 0x55 ∷ m) (e : n ≡ len_of f) (l : 10 + n ≤ length f)
    (c : cmd_of f ≤ 5) (t : status_of f ≤ 7) (k : n ≤ cap) (o : overhears device (status_of f) ≡ false) where
  abbrev body : List ℕ
  body = take (10 + n) f

  abbrev crc : List ℕ
  crc = low_bytes 2 (crc_of body)

  long : length body ≡ 10 + n
  long = length-take-le (10 + n) f l

  pub wire_long : length (wire n f) ≡ 12 + n
  wire_long = simp (length-append, long) (omega arith)

  wire_size : len_of (wire n f) ≡ n
  wire_size = size_append cap device body crc (omega (arith, long)) ∙ size_take cap device (10 + n) f (omega arith) (omega arith) ∙ sym e

  passes : verdict_of cap device (wire n f) ≡ None
  passes =
      verdict_append cap device body crc (omega (arith, long)) ∙ verdict_take cap device (10 + n) f (omega arith) (omega arith) ∙
      sym (verdict_fields cap device f n e) ∙
      header-going cap device (cmd_of f) (status_of f) n (rw (le-ltb 5 (cmd_of f) c, le-ltb 7 (status_of f) t) refl) k

  good : checked device (wire n f) ≡ Kind.Good
  good =
      checked_at cap device f n (crc_of body % 256) (crc_of body / 256 % 256) l e ∙
      simp (o, eq-eqb _ _ (sym (crc_back body)))

  whole : started cap device (wire n f) ≡ Ended Kind.Good (wire n f) []
  unfolding started
  whole =
      let a : take (12 + len_of (wire n f)) (wire n f) ≡ wire n f = take_all (12 + len_of (wire n f)) (wire n f) (omega (arith, wire_size, wire_long)) in
      let b : drop (12 + len_of (wire n f)) (wire n f) ≡ [] =
      drop_of_length-le (wire n f) {i = 12 + len_of (wire n f)} (omega (arith, wire_size, wire_long)) in
      rw (
        le-ltb (length (wire n f)) 10 (omega (arith, wire_long)),
        passes,
        le-ltb (length (wire n f)) (12 + len_of (wire n f)) (omega (arith, wire_size, wire_long)),
        good,
        a,
        b,
      ) refl

  synced : wire n f ≡ 0xAA ∷ 0x55 ∷ (take (8 + n) m ++ crc)
  synced =
      let i : 10 + n ≡ suc (suc (8 + n)) = omega arith in
      let u : take (10 + n) (0xAA ∷ 0x55 ∷ m) ≡ 0xAA ∷ 0x55 ∷ take (8 + n) m = rw i refl in
      ap (λ (v : List ℕ). v ++ crc) (ap (take (10 + n)) s ∙ u)

  -- both directions: a request as a device reads it, a reply as the desk does
  pub wire_read : (rest : List ℕ) → read_frame cap device (wire n f ++ rest) ≡ Ended Kind.Good (wire n f) rest
  wire_read rest =
      read_sync cap device (wire n f) (take (8 + n) m ++ crc) rest synced ∙
      started_ended cap device (wire n f) rest Kind.Good (wire n f) [] whole

  -- what a reader holds of it: the frame's header and data, and something after them
  module _ (b : List ℕ) where
    abbrev pub after : List ℕ
    after =
        drop (length body) (take (10 + cap) b) ++
        (get_or (wire n f) (10 + len_of (wire n f)) (get_or b (10 + cap) 0) ∷ get_or (wire n f) (11 + len_of (wire n f)) (get_or b (11 + cap) 0) ∷ [])

    pub stored : store cap b (wire n f) ≡ body ++ after
    unfolding store
    stored =
        let x : List ℕ =
        get_or (wire n f) (10 + len_of (wire n f)) (get_or b (10 + cap) 0) ∷ get_or (wire n f) (11 + len_of (wire n f)) (get_or b (11 + cap) 0) ∷ [] in
        let a : List ℕ = take (10 + cap) b in
        let u : take (10 + len_of (wire n f)) (wire n f) ≡ body = ap (λ (j : ℕ). take (10 + j) (wire n f)) wire_size ∙ take_at body crc (10 + n) long in
        ap (λ (d : List ℕ). (d ++ drop (length d) a) ++ x) u ∙ append_assoc body (drop (length body) a) x

  -- put to a reader that waits
  module _ (b : List ℕ) (g : ℕ) (i : Waiting cap b g) where
    waits : (g ≡ 0) ⊎ ((g ≡ 1) × (get_or b 0 0 ≡ 0xAA)) → well_of cap device b g ≡ true
    unfolding well_of
    waits (inl z) = rw z refl
    waits (inr z) = rw (z.0, z.1) refl

    reads : (rest : List ℕ) → (g ≡ 0) ⊎ ((g ≡ 1) × (get_or b 0 0 ≡ 0xAA)) →
        read_frame cap device (begun cap b g ++ (wire n f ++ rest)) ≡ Ended Kind.Good (wire n f) rest
    reads rest (inl z) =
        let u : begun cap b 0 ≡ [] = begun-part cap b 0 (omega arith) in
        rw (z, u) (wire_read rest)
    reads rest (inr z) =
        let u : begun cap b 1 ≡ 0xAA ∷ [] =
        begun-part cap b 1 (omega arith) ∙ take-suc b 0 0 (omega (arith, i.whole)) ∙ ap (λ (j : ℕ). j ∷ []) z.1 in
        rw (z.0, u) (lead cap device (wire n f) (take (8 + n) m ++ crc) rest synced ∙ wire_read rest)

    pub taken_whole : (rest : List ℕ) → read_of cap device b g (wire n f ++ rest) ≡
        record { bytes = store cap (ready b) (wire n f); got = 0; taken = 12 + n; said = ended Kind.Good }
    unfolding read_of
    taken_whole rest =
        let j : length (wire n f ++ rest) - length rest ≡ 12 + n = rw (length-append (wire n f) rest) (omega (arith, wire_long)) in
        rw (waits i.none, reads rest i.none, j) refl
