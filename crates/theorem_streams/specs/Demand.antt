-- Demand 3, of any device: however a stream is cut into calls, it comes to what the uncut stream comes to.
use Rattle.std.specs.Prelude.{ℕ, zero, suc, ◌+◌, ◌≤◌, ◌<◌, ◌≡◌, ◌||◌, ◌⊎◌, List, [], ◌++◌, length, take, drop, eqb, if◌then◌else◌}
use Rattle.theorem_streams.specs.Rules.{Rules, Called, Device, refused_by}
use Rattle.theorem_streams.specs.Stream.{Story, event_of, ends, first, story_of}

-- a call is an event, a refusal too, but for a quiet one
abbrev pub noted : {W : Type 0} → Called W → Story W → Story W
noted c t = if eqb c.told.number 0 then t else first (event_of c.told c.room) t

-- what a call has left of the bytes l, of which it was handed a beginning
abbrev pub untaken : {W : Type 0} → Called W → List ℕ → List ℕ
untaken c l = drop c.taken l

-- calls c, each handed a beginning x, also the empty one, of the bytes l not yet taken, and a reply room for a full frame, until a restart is answered or
-- none is left; the world is touched by nobody else
pub data Runs {W : Type 0} (cap : ℕ) (d : Device W) : W → List ℕ → Story W → Type 0 where
  next : {w : W} {l : List ℕ} {t : Story W} (x m room : List ℕ) (c : Called W) → c ≡ d w x room → l ≡ x ++ m → 12 + cap ≤ length room →
      (c.told.number ≡ 3 → ⊥) → Runs cap d c.left (untaken c l) t → Runs cap d w l (noted c t)
  stop : {w : W} {l : List ℕ} (x m room : List ℕ) (c : Called W) → c ≡ d w x room → l ≡ x ++ m → 12 + cap ≤ length room →
      (c.told.number ≡ 3) ⊎ (untaken c l ≡ []) → Runs cap d w l (noted c (ends (untaken c l) c.left))

-- a call on a beginning of l, and the calls after it unless it is the last
abbrev pub called_on : {W : Type 0} → (W → List ℕ → Story W) → List ℕ → Called W → Story W
called_on on l c =
    noted c (if eqb c.told.number 3 || eqb (length (untaken c l)) 0 then ends (untaken c l) c.left else on c.left (untaken c l))

-- one caller of many, at most n calls: call k, from 0 on, is handed 1 + size k of the bytes not yet taken, or all where there are fewer
unfoldable pub calls_of : {W : Type 0} → Device W → List ℕ → ℕ → (ℕ → ℕ) → W → List ℕ → Story W
calls_of d room zero size w l = ends l w
calls_of d room (suc n) size w l = called_on (calls_of d room n (λ k. size (suc k))) l (d w (take (1 + size 0) l) room)

-- demand 3 of a device d whose rules are r, from any good world on
pub record Demand3 {W : Type 0} (r : Rules W) (Good : W → Type 0) (d : Device W) : Type 0 where
  -- what calls come to is the story of the uncut stream: replies in order with their waits, the world at the end, and what is left
  pub uncut : (w : W) → Good w → (l : List ℕ) (t : Story W) → Runs r.cap d w l t → t ≡ story_of r w l
  -- after an accepted Reset every call is refused, and so takes and changes nothing
  pub closed : (w : W) → Good w → (x room : List ℕ) → 12 + r.cap ≤ length room → (c : Called W) → c ≡ d w x room → c.told.number ≡ 3 →
      (y other : List ℕ) → 12 + r.cap ≤ length other → d c.left y other ≡ refused_by 15 c.left other
  -- a call takes no more than its piece has, and at least a byte of one that is not empty
  pub moves : (w : W) → Good w → (x room : List ℕ) → 12 + r.cap ≤ length room → (c : Called W) → c ≡ d w x room →
      (c.taken ≤ length x) × (0 < length x → 0 < c.taken)
  -- so there is a run for every cut into pieces: calls with pieces of any sizes come to an end, after one for each byte and one more at the latest
  pub runs : (w : W) → Good w → (l : List ℕ) (size : ℕ → ℕ) (room : List ℕ) → 12 + r.cap ≤ length room →
      Runs r.cap d w l (calls_of d room (1 + length l) size w l)
