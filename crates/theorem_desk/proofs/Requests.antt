-- Each request that the desk has written arrives.
use Prim.Native.Nat.{ℕ, ◌+◌, ◌^◌, ◌≤◌, ◌<◌}
use mathlib.Core.Path.{◌≡◌, refl, sym, ◌∙◌}
use mathlib.Core.List.{List, ◌++◌}
use mathlib.Core.Bool.{Bool, true, false, ◌||◌}
use native.Mathlib.Omega.{arith}
use borrow.Author.Tests.{ltb-false, leb-false}
use lib.ListN.{length, take, drop, length-append}
use lib.Seq.{take_at, take_all, length-take-le}
use lib.Dec.{ltb, leb}
use Rattle.laws.specs.Pick.{pick}
use Rattle.laws.specs.Over.{over}
use Rattle.wire_numbers.specs.declared.Cmd.{Cmd}
use Rattle.wire_numbers.specs.Names.{cmd_number}
use Rattle.wire_numbers.proofs.Bytes.{read_back}
use Rattle.wire_frames.specs.Fields.{cmd_of, len_of}
use Rattle.wire_frames.specs.Reading.{overhears}
use Rattle.wire_frames.specs.Stored.{ready, store, read_of}
use Rattle.desk_requests.specs.declared.Request.{Request}
use Rattle.desk_requests.specs.Requests.{fields_of, frame_of, wrote, Wrote, too_large, request_of}
use Rattle.theorem_desk.specs.Desk.{Waiting, Arrived, RequestsArrive}
use Rattle.theorem_desk.proofs.WireRead as wired

cmd_small : (c : Cmd) → cmd_number c ≤ 5
cmd_small Cmd.Info = omega arith
cmd_small Cmd.Erase = omega arith
cmd_small Cmd.Write = omega arith
cmd_small Cmd.Verify = omega arith
cmd_small Cmd.Reset = omega arith
cmd_small Cmd.Select = omega arith

-- a request that was written: it fits, and the room holds its frame
record Done (cap : ℕ) (r : Request) (d : List ℕ) (w : Wrote) : Type 0 where
  pub short : length d ≤ cap
  pub near : r.addr < 256 ^ 3
  pub len : w.len ≡ 12 + length d
  pub sent : take w.len w.room ≡ frame_of r d

frame_long : (r : Request) (d : List ℕ) → length (frame_of r d) ≡ 12 + length d
frame_long r d =
    let l : length (take (10 + length d) (fields_of r d)) ≡ 10 + length d = length-take-le (10 + length d) (fields_of r d) (omega arith) in
    simp (length-append, l) (omega arith)

done : (cap : ℕ) (r : Request) (d room : List ℕ) → (request_of cap r d room).number ≡ 0 → Done cap r d (request_of cap r d room)
unfolding request_of
done cap r d room e = first (ltb (length room) (12 + cap)) e
  where
    second : (t : Bool) → too_large cap (length d) r.addr ≡ t → (pick t (wrote 20 0 room) (wrote 0 (12 + length d) (over (frame_of r d) room))).number ≡ 0 →
        Done cap r d (pick t (wrote 20 0 room) (wrote 0 (12 + length d) (over (frame_of r d) room)))
    second true w x = absurd (omega arith)
    second false w x = third (ltb cap (length d)) refl (leb (256 ^ 3) r.addr) refl w
      where
        third : (a : Bool) → ltb cap (length d) ≡ a → (b : Bool) → leb (256 ^ 3) r.addr ≡ b → a || b ≡ false →
            Done cap r d (wrote 0 (12 + length d) (over (frame_of r d) room))
        third true u b v y = cc
        third false u true v y = cc
        third false u false v y =
            record {
              short = ltb-false _ _ u;
              near = leb-false _ _ v;
              len = refl;
              sent = take_at (frame_of r d) (drop (length (frame_of r d)) room) (12 + length d) (frame_long r d);
            }

    first : (t : Bool) →
        (pick t (wrote 14 0 room) (pick (too_large cap (length d) r.addr) (wrote 20 0 room) (wrote 0 (12 + length d) (over (frame_of r d) room)))).number ≡ 0 →
        Done cap r d (pick t (wrote 14 0 room)
        (pick (too_large cap (length d) r.addr) (wrote 20 0 room) (wrote 0 (12 + length d) (over (frame_of r d) room))))
    first true x = absurd (omega arith)
    first false x = second (too_large cap (length d) r.addr) refl x

-- a frame of a request's numbers, put to a device that waits
module _ (cap : ℕ) (r : Request) (d : List ℕ) (k : length d ≤ cap) (z : length d < 256 ^ 2)
    (a : r.addr < 256 ^ 3) (f : List ℕ) (g : ℕ) (i : Waiting cap f g) where
  abbrev q : List ℕ
  q = fields_of r d

  size : length d ≡ len_of q
  size = sym (read_back 2 (length d) z)

  not_overheard : overhears true 0 ≡ false
  unfolding overhears
  not_overheard = refl

  frame_arrives : (rest : List ℕ) → Arrived r d (12 + length d) (read_of cap true f g (frame_of r d ++ rest))
  frame_arrives rest =
      let n : ℕ = length d in
      let l : 10 + n ≤ length q = omega arith in
      let c : cmd_of q ≤ 5 = cmd_small r.cmd in
      let t : 0 ≤ 7 = omega arith in
      let w = wired.taken_whole cap true q (drop 2 q) n refl size l c t k not_overheard f g i rest in
      let b : store cap (ready f) (frame_of r d) ≡ take (10 + n) q ++ wired.after cap true q (drop 2 q) n refl size l c t k not_overheard (ready f) =
      wired.stored cap true q (drop 2 q) n refl size l c t k not_overheard (ready f) in
      let x : List ℕ = wired.after cap true q (drop 2 q) n refl size l c t k not_overheard (ready f) in
      let at = wired.at q x n (sym size) l in
      rw w
      (record {
        taken = refl;
        got = refl;
        said = refl;
        cmd = rw b (at 2 (omega arith));
        addr = rw b (simp (at 4 (omega arith), at 5 (omega arith), at 6 (omega arith)) (read_back 3 r.addr a));
        flags = rw b (at 7 (omega arith));
        load = rw b (wired.same_load q x n (sym size) l ∙ take_all n d (omega arith));
      })

-- 1. requests arrive
pub requests_arrive : (cap other : ℕ) → cap < 256 ^ 2 → RequestsArrive cap other
requests_arrive cap other s r d room e k f g i rest =
    let w = done cap r d room e in
    rw (w.sent, w.len) (frame_arrives other r d k (omega (arith, w.short)) w.near f g i rest)
