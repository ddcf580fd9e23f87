-- One call by the rules, in a good world: what it leaves, and how the uncut stream goes on from there.
use Rattle.std.specs.Prelude.{None}
use Prim.Native.Nat.{ℕ, suc, ◌+◌, ◌-◌, ◌≤◌, ◌<◌}
use mathlib.Core.Path.{◌≡◌, refl, sym, ap, ◌∙◌}
use mathlib.Core.Bool.{true}
use mathlib.Core.List.{List, [], ◌++◌, append_assoc}
use native.Mathlib.Omega.{arith}
use lib.ListN.{length, take, drop, replicate, length-append, take-append-drop}
use lib.Seq.{drop_at, length-take-le}
use Rattle.wire_frames.specs.declared.frame.Kind.{Kind}
use Rattle.wire_frames.specs.Reading.{Outcome, Begun, Ended, read_frame}
use Rattle.wire_frames.specs.Stored.{quiet, ended, Read, begun, store, ready, out_of, After}
use Rattle.wire_frames.proofs.Cut.{cut_ended}
use Rattle.wire_frames.proofs.Start.{Started, start_of}
use Rattle.wire_frames.proofs.Steps.{kept}
use Rattle.wire_frames.proofs.Anywhere.{after_begun, left, of_well}
use Rattle.theorem_streams.specs.Rules.{Ending, Rules, ended_by, refused_by, whole_of, arrived, read_by, call_of}
use Rattle.theorem_streams.specs.Stream.{Story, ends, followed, goes_on, acted, stream_of}
use Rattle.theorem_streams.proofs.Owed as owed
use Rattle.theorem_streams.proofs.Owed.{Owed}
use Rattle.theorem_streams.proofs.Rest.{Front, ended_rest, rest_of, ended_less}
use Rattle.theorem_streams.proofs.Stored.{ended_kept}

module _ {W : Type 0} (r : Rules W) (Good : W → Type 0) (o : Owed r Good) (w : W) (y : Good w) where
  abbrev cap : ℕ
  cap = r.cap

  abbrev f : List ℕ
  f = r.frame w

  abbrev g : ℕ
  g = r.got w

  -- the bytes begun
  abbrev p : List ℕ
  p = begun cap f g

  begins : Started cap true f g
  begins = start_of cap true f g (o.whole w y) (o.well w y)

  -- they read as a frame begun
  begun_reads : read_frame cap true p ≡ Begun p
  begun_reads = rw begins.same at (kept cap true (ready f) g begins.well).reads

  pub call_is : (x room : List ℕ) → 12 + cap ≤ length room → call_of r w x room ≡ read_by r w x room (read_frame cap true (p ++ x))
  unfolding call_of
  call_is x room h = simp (o.allowed w y room h)

  module _ (x q : List ℕ) (e : read_frame cap true (p ++ x) ≡ Begun q) where
    -- what a quiet call leaves, and the bytes begun in it
    abbrev pub quieted : W
    quieted = arrived r w q (length q)

    abbrev f' : List ℕ
    f' = store cap (ready f) q

    abbrev p' : List ℕ
    p' = begun cap f' (length q)

    pub quiet_is : (room : List ℕ) → 12 + cap ≤ length room → call_of r w x room ≡ read_by r w x room (Begun q)
    quiet_is room h = call_is x room h ∙ ap (read_by r w x room) e

    on : After cap true (ready f) g x f' (length q) None
    on = after_begun cap true (ready f) g begins.well x q (rw begins.same e)

    pub quiet_good : Good quieted
    quiet_good = o.held w y f' (length q) on.0.whole (of_well cap true f' (length q) on.0)

    pub whole_on : (m : List ℕ) → whole_of r quieted m ≡ p' ++ m
    whole_on m =
        ap (λ (v : List ℕ). begun cap v (r.got quieted) ++ m) (o.bytes f' (length q) w) ∙
        ap (λ (n : ℕ). begun cap f' n ++ m) (o.count f' (length q) w)

    -- bytes that come later are stored as if all had come at once
    arrived_on : (c : List ℕ) (n : ℕ) → arrived r quieted c n ≡ r.holding (store cap (ready f') c) n w
    arrived_on c n =
        ap (λ (v : List ℕ). r.holding (store cap (ready v) c) n quieted) (o.bytes f' (length q) w) ∙
        o.again (store cap (ready f') c) n f' (length q) w

    -- the uncut stream goes on from the world after a quiet call
    pub stream_on : (n : ℕ) (m : List ℕ) → stream_of r (suc n) w (p ++ (x ++ m)) ≡ stream_of r (suc n) quieted (p' ++ m)
    unfolding stream_of
    stream_on n m = go (read_frame cap true (p ++ (x ++ m))) (read_frame cap true (p' ++ m)) refl refl
      where
        -- the frame's bytes are the same whether stored at once or on from there
        same : (u u' : Outcome) → read_frame cap true (p ++ (x ++ m)) ≡ u → read_frame cap true (p' ++ m) ≡ u' → (k : ℕ) →
            out_of cap (ready f) k u ≡ out_of cap (ready f') k u'
        same u u' i j k =
            ap (out_of cap (ready f) k) (sym i ∙ ap (λ (v : List ℕ). read_frame cap true (v ++ (x ++ m))) (sym begins.same)) ∙
            on.1 m k ∙
            ap (out_of cap f' k) j ∙
            ap (λ (v : List ℕ). out_of cap v k u') on.0.synced

        -- the world with the frame as read, and what becomes of a frame of this kind with this left after it
        held : Read → W
        held v = r.holding v.bytes v.got w

        acts : Kind → W → List ℕ → Story W
        acts k v l = followed (goes_on r (stream_of r n) l) (r.act k v (replicate {A = ℕ} (12 + cap) 0))

        go : (u u' : Outcome) → read_frame cap true (p ++ (x ++ m)) ≡ u → read_frame cap true (p' ++ m) ≡ u' →
            acted r w (stream_of r n) u ≡ acted r quieted (stream_of r n) u'
        go (Begun c) (Begun c') i j =
            ap (λ (v : Read). ends [] (held v)) (same (Begun c) (Begun c') i j 0) ∙ ap (ends []) (sym (arrived_on c' (length c')))
        go (Begun c) (Ended k' c' l') i j =
            let a : quiet ≡ ended k' = ap (λ (v : Read). v.said) (same (Begun c) (Ended k' c' l') i j 0) in
            let z : ◌≡◌ {A = ℕ} 0 1 = cc in
            absurd (omega arith)
        go (Ended k c l) (Begun c') i j =
            let a : ended k ≡ quiet = ap (λ (v : Read). v.said) (same (Ended k c l) (Begun c') i j 0) in
            let z : ◌≡◌ {A = ℕ} 0 1 = cc in
            absurd (omega arith)
        go (Ended k c l) (Ended k' c' l') i j =
            let a = same (Ended k c l) (Ended k' c' l') i j (length l + length l') in
            let n' : length l + length l' - length l ≡ length l + length l' - length l' = ap (λ (v : Read). v.taken) a in
            let short : length l' ≤ length m = left cap true f' (length q) on.0 m c' l' k' j in
            let t : drop (length m - length l) m ≡ l =
            rest_of (p ++ x) m l (ended_rest cap true ((p ++ x) ++ m) k c l (ap (read_frame cap true) (append_assoc p x m) ∙ i)) (omega arith) in
            let t' : drop (length m - length l') m ≡ l' = rest_of p' m l' (ended_rest cap true (p' ++ m) k' c' l' j) short in
            let u : length l ≡ length l' = omega arith in
            let v : l ≡ l' = sym t ∙ ap (λ (z : ℕ). drop (length m - z) m) u ∙ t' in
            let b : ended k ≡ ended k' = ap (λ (z : Read). z.said) a in
            let d : k ≡ k' = cc in
            ap (λ (z : Read). acts k (held z) l) a ∙ ap (λ (z : Kind). acts z (held (out_of cap (ready f') 0 (Ended k' c' l'))) l) d ∙
            ap (acts k' (held (out_of cap (ready f') 0 (Ended k' c' l')))) v ∙ ap (λ (z : W). acts k' z l') (sym (arrived_on c' 0))

  -- where a frame ends: its bytes are stored, and the rest is acted on
  module _ (x : List ℕ) (k : Kind) (q l : List ℕ) (e : read_frame cap true (p ++ x) ≡ Ended k q l) where
    abbrev pub ending : List ℕ → Ending W
    ending room = r.act k (arrived r w q 0) room

    pub ended_is : (room : List ℕ) → 12 + cap ≤ length room → call_of r w x room ≡ ended_by (length x - length l) (ending room)
    ended_is room h = call_is x room h ∙ ap (read_by r w x room) e

    pub as_owed : owed.AtEnd r Good ending
    as_owed =
        let s = ended_kept cap true (p ++ x) k q l e (ready f) begins.well.whole in
        o.ended w y k (store cap (ready f) q) s.0 s.1

    front : Front 2 (p ++ x) l
    front = ended_rest cap true (p ++ x) k q l e

    -- a byte or more was taken
    pub less : length l < length x
    less = ended_less cap true p p x begun_reads k q l e

    module _ (m : List ℕ) where
      -- the bytes left after what was taken are the rest of the reading
      pub untaken : drop (length x - length l) (x ++ m) ≡ l ++ m
      untaken =
          let t : List ℕ = take (length x - length l) x in
          let a : x ≡ t ++ l = sym (take-append-drop (length x - length l) x) ∙ ap (λ (v : List ℕ). t ++ v) (rest_of p x l front (omega (arith, less))) in
          ap (λ (v : List ℕ). drop (length x - length l) (v ++ m)) a ∙
          ap (drop (length x - length l)) (append_assoc t l m) ∙
          drop_at t (l ++ m) (length x - length l) (length-take-le (length x - length l) x (omega arith))

      pub shorter : length (l ++ m) < length (p ++ (x ++ m))
      shorter =
          let a : length (p ++ x) ≡ length front.front + length l = ap length front.parts ∙ length-append front.front l in
          let b : length (p ++ (x ++ m)) ≡ length (p ++ x) + length m = ap length (sym (append_assoc p x m)) ∙ length-append (p ++ x) m in
          rw (length-append l m) (omega (arith, front.some))

      pub stream_ended : (n : ℕ) →
          stream_of r (suc n) w (p ++ (x ++ m)) ≡ followed (goes_on r (stream_of r n) (l ++ m)) (ending (replicate {A = ℕ} (12 + cap) 0))
      unfolding stream_of
      stream_ended n =
          ap (acted r w (stream_of r n)) (ap (read_frame cap true) (sym (append_assoc p x m)) ∙ cut_ended cap true (p ++ x) m k q l e)

    -- after a restart every call is refused as closed
    pub ended_closed : (room : List ℕ) → r.closed (ending room).left ≡ true → (b other : List ℕ) → 12 + cap ≤ length other →
        call_of r (ending room).left b other ≡ refused_by 15 (ending room).left other
    unfolding call_of
    ended_closed room c b other h = simp (as_owed.shut room c other h)
