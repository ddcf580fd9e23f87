-- One byte that is only stored: the state's bytes after it.
use Prim.Native.Nat.{ℕ, ◌+◌, ◌%◌, ◌<◌}
use mathlib.Core.Path.{◌≡◌, refl, ap, sym, ◌∙◌}
use mathlib.Core.Bool.{Bool, true}
use mathlib.Core.List.{List, [], ◌∷◌, ◌++◌, append_assoc}
use native.Mathlib.Nat.{mod-eq_of_lt}
use native.Mathlib.Omega.{arith}
use lib.ListN.{length, get_or, take, drop, set, length-append, length-set, length-drop}
use lib.Dec.{ltb}
use lib.Seq.{set_at, set-append_left, take_at, drop_at, length-take-le}
use Rattle.laws.specs.Low.{low_first, low_bytes}
use Rattle.laws.specs.Pick.{pick}
use Rattle.laws.specs.Over.{over}
use Rattle.device_state.specs.declared.Numbers.{Numbers}
use Rattle.device_replies.specs.Answers.{Told, mute}
use Rattle.device_state.specs.State.{got_set, state_with}
use Rattle.device_feed.specs.Feed.{Called}
use Rattle.device_in_place.specs.On.{frame_in, page_in}
use Rattle.device_in_place.specs.Byte.{laid_to, byte_on}
use Rattle.device_in_place.proofs.Quick.{byte_laid, byte_within, byte_fed}
use Rattle.c_layout.specs.Layout.{part, setup_from, holds_state, numbers_from, flag_byte, number_bytes, part_bytes, state_bytes, answer_bytes, answered}
use Rattle.tinyboot_c.specs.Calls.{AfterFeed, after_feed, feed_called}
use Rattle.device_replies.specs.Inner.{told_by}
use Rattle.tinyboot_c.specs.Inner.{ByteFed, laid}
use Rattle.device_replies.specs.declared.Said.{Said}
use Rattle.c_layout.proofs.Holding.{holds_size}
use Rattle.tinyboot_c.proofs.Round.{read_written}

-- in three parts: the byte at g of the first, and the count in the last
module _ (f p : List ℕ) (lf : length f ≡ 64) (lp : length p ≡ 64) (n : Numbers) (g b : ℕ) (h : g < 64) where
  abbrev low : List ℕ
  low = low_bytes 4 n.next

  abbrev rest : List ℕ
  rest = n.fill % 256 ∷ flag_byte n.selected ∷ flag_byte n.closed ∷ []

  stored : set (part_bytes f p (number_bytes n)) g b ≡ part_bytes (set f g b) p (number_bytes n)
  stored = set-append_left f (p ++ number_bytes n) g b (rw lf h)

  apart : (x : ℕ) (d : List ℕ) → d ++ (p ++ (low ++ (x ∷ rest))) ≡ (d ++ (p ++ low)) ++ (x ∷ rest)
  apart x d =
      ap (λ (v : List ℕ). d ++ v) (sym (append_assoc p low (x ∷ rest))) ∙ sym (append_assoc d (p ++ low) (x ∷ rest))

  pub counted : (m : ℕ) → m < 256 → set (set (part_bytes f p (number_bytes n)) g b) 132 m ≡ part_bytes (set f g b) p (number_bytes (got_set m n))
  counted m k =
      let d : List ℕ = set f g b in
      let ld : length d ≡ 64 = length-set f g b ∙ lf in
      let long : length (d ++ (p ++ low)) ≡ 132 = simp (length-append) (omega (arith, ld, lp)) in
      ap (λ (v : List ℕ). set v 132 m) (stored ∙ apart (n.got % 256) d) ∙
      set_at (d ++ (p ++ low)) (n.got % 256) rest m 132 long ∙
      sym (apart m d) ∙
      ap (λ (v : ℕ). part_bytes d p (low ++ (v ∷ rest))) (sym (mod-eq_of_lt k))

-- what `byte_on` says, t, and leaves of a state, by what stands in the setup's and the state's bytes
abbrev pub OnByte : List ℕ → List ℕ → ℕ → ℕ → ℕ → ℕ → List ℕ → Bool → Type 0
OnByte setup state b flash meta room after t =
    laid_to t after ≡
    byte_on 52 64 (setup_from setup).erase_size (setup_from setup).capacity (setup_from setup).id_len (setup_from setup).start_kind
    (numbers_from 52 64 state) state b flash meta room

-- the numbers that the code read are those that stand there
pub byte_known : (setup state : List ℕ) (b flash meta room : ℕ) (r : Bool) (after : List ℕ) (erase capacity idLen kind : ℕ) (n : Numbers) →
    laid_to r after ≡ byte_on 52 64 erase capacity idLen kind n state b flash meta room →
    erase ≡ low_first (part 0 4 setup) → capacity ≡ low_first (part 4 4 setup) → idLen ≡ get_or setup 8 0 → kind ≡ get_or setup 31 0 →
    n ≡ numbers_from 52 64 state → (t : Bool) → r ≡ t →
    OnByte setup state b flash meta room after t
byte_known setup state b flash meta room r after erase capacity idLen kind n e ke kc ki kk kn t w = rw (w, ke, kc, ki, kk, kn) at e

-- the answer to it, where there is room for one
pub byte_answered : (said : Said) → told_by said ≡ mute 0 → (result : ℕ) → result ≡ said.number → (state f m r answer a : List ℕ) →
    a ≡ answered (told_by said) 1 answer → (x : Called) → after_feed 0 state f m r (over (answer_bytes (mute 0) 1) answer) ≡ feed_called x answer →
    after_feed result state f m r a ≡ laid x answer
byte_answered said k result kr state f m r answer a ka x e =
    let z : result ≡ 0 = kr ∙ ap (λ (v : Told). v.number) k in
    let b : Bool = ltb (length answer) 16 in
    ap (λ (v : ℕ). after_feed v state f m r a) z ∙
    ap (λ (y : List ℕ). after_feed 0 state f m r y) (ka ∙ ap (λ (t : Told). answered t 1 answer) k) ∙
    ap (λ (y : AfterFeed). after_feed y.result y.state y.flash y.meta y.reply (pick b answer y.answer)) e

module _ (setup state : List ℕ) (h : holds_state 52 64 state ≡ true) (byte : (i : ℕ) → i < length state → get_or state i 0 < 256) (b flash meta room : ℕ)
    (after : List ℕ)
    (e : OnByte setup state b flash meta room after true) where
  abbrev n : Numbers
  n = numbers_from 52 64 state

  abbrev got : ℕ
  got = get_or state 132 0

  size : length state ≡ 136
  size = holds_size state h

  laid_in : after ≡ set state got b
  laid_in = byte_laid (setup_from setup) state n b flash meta room after e

  pub within : got < 64
  within = byte_within (setup_from setup) state n b flash meta room after e

  pub after_size : length after ≡ 136
  after_size = ap length laid_in ∙ length-set state got b ∙ size

  -- the parts of the state before, and of the bytes after
  abbrev f : List ℕ
  f = part 0 64 state

  abbrev p : List ℕ
  p = part 64 64 state

  lf : length f ≡ 64
  lf = length-take-le 64 state (omega (arith, size))

  lp : length p ≡ 64
  lp = length-take-le 64 (drop 64 state) (omega (arith, length-drop 64 state, size))

  whole : state ≡ part_bytes f p (number_bytes n)
  whole = sym (read_written state h byte)

  parted : after ≡ part_bytes (set f got b) p (number_bytes n)
  parted = laid_in ∙ ap (λ (v : List ℕ). set v got b) whole ∙ stored f p lf lp n got b within

  frame_after : part 0 64 after ≡ set f got b
  frame_after = ap (take 64) parted ∙ take_at (set f got b) (p ++ number_bytes n) 64 (length-set f got b ∙ lf)

  page_after : part 64 64 after ≡ p
  page_after =
      ap (λ (v : List ℕ). take 64 (drop 64 v)) parted ∙ ap (take 64) (drop_at (set f got b) (p ++ number_bytes n) 64 (length-set f got b ∙ lf)) ∙
      take_at p (number_bytes n) 64 lp

  written : set after 132 (got + 1) ≡ state_bytes (state_with (frame_in 52 after) (page_in 52 64 after) (got_set (got + 1) n))
  written =
      ap (λ (v : List ℕ). set v 132 (got + 1)) (laid_in ∙ ap (λ (v : List ℕ). set v got b) whole) ∙
      counted f p lf lp n got b within (got + 1) (omega (arith, within)) ∙
      (rw (frame_after, page_after) refl)

  pub byte_stored : ByteFed setup state (b ∷ []) flash meta room (set after 132 (got + 1)) true
  byte_stored fl me ro answer ef em er =
      ap (λ (v : List ℕ). after_feed 0 v fl me ro (over (answer_bytes (mute 0) 1) answer)) written ∙
      ap (λ (x : Called). feed_called x answer) (byte_fed (setup_from setup) state n b flash meta room after e fl me ro ef em er)

  pub piece_stored : (bytes : List ℕ) → length bytes ≡ 1 → b ≡ get_or bytes 0 0 → ByteFed setup state bytes flash meta room (set after 132 (got + 1)) true
  piece_stored [] k eb = absurd (omega arith)
  piece_stored (a ∷ []) k eb = rw (← eb) byte_stored
  piece_stored (a ∷ c ∷ l) k eb = absurd (omega arith)
