-- One byte that is only stored: the call on it is the feed's.
use Prim.Native.Nat.{ℕ, ◌+◌, ◌≤◌, ◌<◌}
use mathlib.Core.Path.{◌≡◌, refl, ap, sym, ◌∙◌}
use mathlib.Core.List.{List, [], ◌∷◌, ◌++◌}
use mathlib.Core.Bool.{Bool, true, false, ◌&&◌}
use native.Mathlib.Omega.{arith}
use borrow.Author.Tests.{eqb-true, leb-true, lt-leb, le-leb}
use lib.ListN.{length, take, drop, set, take-append-drop}
use lib.Seq.{drop-set-lt, length-take-le, set-append_left}
use lib.Dec.{leb, eqb}
use Rattle.laws.specs.Pick.{pick}
use Rattle.laws.proofs.Bools.{and_both}
use Rattle.laws.proofs.Lists.{take-set}
use Rattle.wire_frames.specs.Stored.{well_of, quiet, read_of}
use Rattle.wire_frames.proofs.Parts.{part_of_whole}
use Rattle.device_state.specs.declared.Setup.{Setup}
use Rattle.device_state.specs.declared.Numbers.{Numbers}
use Rattle.device_state.specs.Refusals.{set_up, run_fits, well_formed, lengths_of, refusal_of}
use Rattle.device_replies.specs.Answers.{mute}
use Rattle.device_state.specs.State.{got_set}
use Rattle.device_feed.specs.Feed.{fed_of}
use Rattle.device_feed.proofs.Feeding.{call_quiet, call_taken}
use Rattle.device_in_place.specs.On.{frame_in, page_in, world_in}
use Rattle.device_in_place.specs.Byte.{plain_at, Laid, laid_to, lay_byte_of, clear_of, byte_on}
use Rattle.device_in_place.proofs.Plain.{begun-within, plain_read}

-- the cases of the call
module _ (erase capacity idLen kind : ℕ) (n : Numbers) (s : List ℕ) (b flash meta room : ℕ) where
  abbrev test : Bool
  test = clear_of 52 64 erase capacity idLen kind n flash meta room

  abbrev call : Laid
  call = byte_on 52 64 erase capacity idLen kind n s b flash meta room

  abbrev frame : List ℕ
  frame = frame_in 52 s

  pub byte_short : length s < 128 → laid_to false s ≡ call
  unfolding byte_on
  byte_short h = rw (lt-leb 128 (length s) h) refl

  pub byte_refused : test ≡ false → laid_to false s ≡ call
  unfolding byte_on
  byte_refused w = go (leb 128 (length s)) refl
    where
      go : (t : Bool) → leb 128 (length s) ≡ t → laid_to false s ≡ call
      go true e = rw (e, w) refl
      go false e = rw e refl

  module _ (h : 128 ≤ length s) where
    tried : test ≡ true → call ≡ laid_to (lay_byte_of 52 true frame n.got b).done (pick (lay_byte_of 52 true frame n.got b).done (set s n.got b) s)
    unfolding byte_on
    tried w = rw (le-leb 128 (length s) h, w) refl

    kept : frame ++ drop 64 s ≡ s
    kept = take-append-drop 64 s

    laid : n.got < 64 → set frame n.got b ++ drop 64 s ≡ set s n.got b
    laid i =
        let m : length frame ≡ 64 = length-take-le 64 s (omega arith) in
        sym (set-append_left frame (drop 64 s) n.got b (rw m i)) ∙ ap (λ (v : List ℕ). set v n.got b) kept

    outcome : (t : Bool) → (t ≡ true → n.got < 64) → (l : Laid) → l ≡ pick t (laid_to true (set frame n.got b)) (laid_to false frame) →
        laid_to l.done (l.bytes ++ drop 64 s) ≡ laid_to l.done (pick l.done (set s n.got b) s)
    outcome true k l e = rw e (ap (laid_to true) (laid (k refl)))
    outcome false k l e = rw e (ap (laid_to false) kept)

    pub byte_tried : test ≡ true → (l : Laid) → l ≡ lay_byte_of 52 true frame n.got b → laid_to l.done (l.bytes ++ drop 64 s) ≡ call
    unfolding lay_byte_of
    byte_tried w l e =
        let begun : Bool = eqb (length frame) 64 && well_of 52 true frame n.got in
        let in_frame : begun && plain_at frame n.got ≡ true → n.got < 64 =
        λ t. begun-within 52 true frame n.got (and_both begun (plain_at frame n.got) t).0 in
        outcome (begun && plain_at frame n.got) in_frame l e ∙
        ap (λ (v : Laid). laid_to v.done (pick v.done (set s n.got b) s)) e ∙ sym (tried w)

-- what was laid was due
laid_when : (t d : Bool) (x s s' : List ℕ) → laid_to true s' ≡ pick t (laid_to d (pick d x s)) (laid_to false s) → (t ≡ true) × (d ≡ true) × (s' ≡ x)
laid_when true true x s s' e = (refl, refl, ap (λ (v : Laid). v.bytes) e)
laid_when true false x s s' e = let no : true ≡ false = ap (λ (v : Laid). v.done) e in (cc, cc, cc)
laid_when false d x s s' e = let no : true ≡ false = ap (λ (v : Laid). v.done) e in (cc, cc, cc)

laid_due : (t : Bool) (x f : List ℕ) → (pick t (laid_to true x) (laid_to false f)).done ≡ true → t ≡ true
laid_due true x f e = refl
laid_due false x f e = cc

laid-not : (t d : Bool) (x s s' : List ℕ) → laid_to false s' ≡ pick t (laid_to d (pick d x s)) (laid_to false s) → s' ≡ s
laid-not true true x s s' e = let no : false ≡ true = ap (λ (v : Laid). v.done) e in cc
laid-not true false x s s' e = ap (λ (v : Laid). v.bytes) e
laid-not false d x s s' e = ap (λ (v : Laid). v.bytes) e

-- not taken, the byte leaves all as it was
pub byte_kept : (erase capacity idLen kind : ℕ) (n : Numbers) (s : List ℕ) (b flash meta room : ℕ) (s' : List ℕ) →
    laid_to false s' ≡ byte_on 52 64 erase capacity idLen kind n s b flash meta room → s' ≡ s
unfolding byte_on
byte_kept erase capacity idLen kind n s b flash meta room s' e =
    let d : Bool = (lay_byte_of 52 true (frame_in 52 s) n.got b).done in
    laid-not (leb 128 (length s) && clear_of 52 64 erase capacity idLen kind n flash meta room) d (set s n.got b) s s' e

module _ (setup : Setup) (s : List ℕ) (n : Numbers) (b flash meta room : ℕ) (s' : List ℕ)
    (e : laid_to true s' ≡ byte_on 52 64 setup.erase_size setup.capacity setup.id_len setup.start_kind n s b flash meta room) where
  abbrev f : List ℕ
  f = frame_in 52 s

  abbrev got : ℕ
  got = n.got

  abbrev up : Bool
  up = set_up 64 setup

  abbrev run : Bool
  run = run_fits 64 setup.capacity n.fill n.next

  abbrev lengths : ℕ
  lengths = lengths_of 52 setup.capacity flash meta room n.closed

  parts : (leb 128 (length s) && (up && (run && eqb lengths 0)) ≡ true) × ((lay_byte_of 52 true f got b).done ≡ true) × (s' ≡ set s got b)
  unfolding byte_on
  parts = laid_when (leb 128 (length s) && (up && (run && eqb lengths 0))) (lay_byte_of 52 true f got b).done (set s got b) s s' e

  pub byte_laid : s' ≡ set s got b
  byte_laid = parts.2

  pub byte_long : 128 ≤ length s
  byte_long = leb-true _ _ (and_both (leb 128 (length s)) (up && (run && eqb lengths 0)) parts.0).0

  whole : length f ≡ 64
  whole = length-take-le 64 s (omega (arith, byte_long))

  due : (eqb (length f) 64 && well_of 52 true f got) && plain_at f got ≡ true
  unfolding lay_byte_of
  due = laid_due ((eqb (length f) 64 && well_of 52 true f got) && plain_at f got) (set f got b) f parts.1

  begins : eqb (length f) 64 && well_of 52 true f got ≡ true
  begins = (and_both (eqb (length f) 64 && well_of 52 true f got) (plain_at f got) due).0

  plain : plain_at f got ≡ true
  plain = (and_both (eqb (length f) 64 && well_of 52 true f got) (plain_at f got) due).1

  well : well_of 52 true f got ≡ true
  well = (and_both (eqb (length f) 64) (well_of 52 true f got) begins).1

  pub byte_within : got < 64
  byte_within = begun-within 52 true f got begins

  clear : (up ≡ true) × (run ≡ true) × (lengths ≡ 0)
  clear =
      let one = and_both up (run && eqb lengths 0) (and_both (leb 128 (length s)) (up && (run && eqb lengths 0)) parts.0).1 in
      let two = and_both run (eqb lengths 0) one.1 in
      (one.0, two.0, eqb-true lengths 0 two.1)

  none : 0 ≡ refusal_of 52 64 setup f n flash meta room
  unfolding refusal_of well_formed
  none = sym (simp (clear.0, clear.1, well) clear.2)

  read : record { bytes = set f got b; got = got + 1; taken = 1; said = quiet } ≡ read_of 52 true f got (b ∷ [])
  read = sym (plain_read 52 true f got begins plain b) ∙ part_of_whole 52 true f got (b ∷ []) whole

  pub byte_fed : (fl me ro : List ℕ) → length fl ≡ flash → length me ≡ meta → length ro ≡ room →
      record { told = mute 0; taken = 1; left = world_in 52 64 s' (got_set (got + 1) n) fl me; room = ro } ≡
      fed_of 52 64 setup (world_in 52 64 s n fl me) (b ∷ []) ro
  byte_fed fl me ro ef em er =
      let fr : frame_in 52 s' ≡ set f got b = ap (take 64) byte_laid ∙ take-set 64 s got b byte_within in
      let pg : page_in 52 64 s' ≡ page_in 52 64 s = ap (λ (v : List ℕ). take 64 (drop 64 v)) byte_laid ∙ ap (take 64) (drop-set-lt 64 s got b byte_within) in
      call_taken 52 64 setup (world_in 52 64 s n fl me) (b ∷ []) ro (rw (ef, em, er) none)
      (record { told = mute 0; taken = 1; left = world_in 52 64 s' (got_set (got + 1) n) fl me; room = ro })
      (rw (fr, pg) (call_quiet 52 64 setup (world_in 52 64 s n fl me) (b ∷ []) ro _ read well refl))
