-- What a frame's end keeps in the app: a full frame with its AA 55, no frame begun, the record's length; and what it says, in every reply room the same.
use Prim.Native.Nat.{ℕ, ◌+◌, ◌≤◌}
use mathlib.Core.Path.{◌≡◌, refl, ap, ◌∙◌}
use mathlib.Core.Bool.{Bool, true, false, not}
use mathlib.Core.List.{List}
use native.Mathlib.Omega.{arith}
use lib.ListN.{length, length-take}
use lib.Dec.{eqb}
use Rattle.laws.specs.Pick.{pick}
use Rattle.wire_frames.specs.declared.frame.Kind.{Kind}
use Rattle.wire_frames.specs.Fields.{cmd_of, Ok, Unsupported}
use Rattle.wire_frames.specs.Reading.{kind_status}
use Rattle.wire_info.specs.Info.{info_bytes}
use Rattle.cmd_info.specs.Info.{info_laid}
use Rattle.cmd_info.proofs.Informing.{told-length, laid-length}
use Rattle.device_turns.specs.declared.Silence.{Silence}
use Rattle.device_turns.specs.declared.Turn.{Turn}
use Rattle.device_turns.specs.Turns.{why_number, Turned, turn_of}
use Rattle.device_replies.specs.Answers.{silence}
use Rattle.device_replies.specs.Reply.{reply_of}
use Rattle.device_dispatcher.specs.Dispatch.{good}
use Rattle.app_state.specs.declared.AppSetup.{AppSetup}
use Rattle.app_state.specs.State.{AppWorld, frame_set}
use Rattle.app_dispatcher.specs.Acts.{Ending, ending, Replied, replied, app_info, id_of, replied_of, answered_of, resets, reset_of, spoken_of, turning}
use Rattle.app_dispatcher.specs.Acts.{after_turn, act_of}
use Rattle.app_dispatcher.proofs.Acting.{row_length}
use Rattle.theorem_streams.proofs.Replies.{Kept, sync_on, turned-kept, reply-kept, reply_same}
use Rattle.theorem_streams.proofs.Owed as owed
use Rattle.theorem_app.specs.Stream.{ending_of, rules_of}

-- a world between two frames
pub record Fit (cap : ℕ) (w : AppWorld) : Type 0 where
  pub kept : Kept cap w.state.frame
  pub none : w.state.numbers.got ≡ 0
  pub meta : length w.meta ≡ 12

-- Info's eighteen bytes have room in the data area
module _ (cap : ℕ) (h : 18 ≤ cap) where
  replied-kept : (s : AppSetup) (kind : Kind) (chosen : Bool) (f meta : List ℕ) → Kept cap f → Kept cap (replied_of cap s kind chosen f meta).bytes
  unfolding replied_of
  replied-kept s kind chosen f meta k = go chosen (good kind) (eqb (cmd_of f) 0)
    where
      i : List ℕ
      i = app_info cap s meta

      n : length i ≡ 18
      n = told-length cap 1 s.app_version s.capacity s.erase_size s.version s.key meta

      go : (a b c : Bool) → Kept cap
          (pick a (replied Ok (length (id_of s)) f)
          (pick (not b) (replied (kind_status kind) 0 f) (pick c (replied Ok info_bytes (info_laid f i)) (replied Unsupported 0 f)))).bytes
      go true b c = k
      go false false c = k
      go false true true = (laid-length f i (omega (arith, k.0)) n ∙ k.0, sync_on f k.1 (λ (l : List ℕ). info_laid l i) (λ l. refl))
      go false true false = k

  -- whatever holds of silence, of a Reset and of a reply, of an app as it should be, holds of a frame's end
  module _ (s : AppSetup) (i : s.id_len ≤ 16) (kind : Kind) (w : AppWorld) (v : Fit cap w) (u : w.state.numbers.closed ≡ false)
      (P : (List ℕ → Ending) → Type 0)
      (mute : (why : Silence) (g : AppWorld) → Fit cap g → g.state.numbers.closed ≡ false → P (ending (silence (why_number why)) g))
      (shuts : (g : AppWorld) → Fit cap g → P (reset_of g))
      (speaks : (wait : ℕ) (x : Replied) (g : AppWorld) → Kept cap x.bytes → Fit cap g → g.state.numbers.closed ≡ false → P (answered_of cap wait x g))
    where
      abbrev t : Turned
      t = turn_of s.id s.id_len kind w.state.frame w.state.numbers.selected

      fit : (on : Bool) → Fit cap (turning on t.bytes w)
      fit on =
          record {
            kept =
                turned-kept cap s.id s.id_len (omega (arith, length-take s.id_len s.id)) kind w.state.frame w.state.numbers.selected
                v.kept;
            none = v.none;
            meta = v.meta;
          }

      spoken : (chosen : Bool) (wait : ℕ) (g : AppWorld) → Fit cap g → g.state.numbers.closed ≡ false → P (spoken_of cap s kind chosen wait g)
      unfolding spoken_of
      spoken chosen wait g k c = go (resets kind chosen g.state.frame)
        where
          x : Replied
          x = replied_of cap s kind chosen g.state.frame g.meta

          go : (r : Bool) → P (λ (room : List ℕ). pick r (reset_of g room) (answered_of cap wait x g room))
          go true = shuts g k
          go false = speaks wait x g (replied-kept s kind chosen g.state.frame g.meta k.kept) k c

      pub act_all : P (act_of cap s kind w)
      unfolding act_of
      act_all = go t.turn
        where
          go : (x : Turn) → P (λ (room : List ℕ). after_turn cap s kind w room t.bytes x)
          go (Turn.Silent why on) = mute why (turning on t.bytes w) (fit on) u
          go (Turn.Reply chosen on wait) = spoken chosen wait (turning on t.bytes w) (fit on) u

  -- of a frame's end in an open world
  module _ (page : ℕ) (s : AppSetup) (i : s.id_len ≤ 16) (kind : Kind) (w : AppWorld) (v : Fit cap w) (u : w.state.numbers.closed ≡ false) where
    reset_fit : (g : AppWorld) → Fit cap g → (room : List ℕ) → Fit cap (reset_of g room).left
    unfolding reset_of
    reset_fit g k room = record { kept = k.kept; none = k.none; meta = row_length g.state.frame g.meta ∙ k.meta }

    answered_fit : (wait : ℕ) (x : Replied) (g : AppWorld) → Kept cap x.bytes → Fit cap g → (room : List ℕ) → Fit cap (answered_of cap wait x g room).left
    unfolding answered_of
    answered_fit wait x g b k room =
        record { kept = reply-kept cap x.status x.len false wait x.bytes room b; none = k.none; meta = k.meta }

    pub act_fit : (room : List ℕ) → Fit cap (act_of cap s kind w room).left
    act_fit =
        act_all s i kind w v u (λ (e : List ℕ → Ending). (room : List ℕ) → Fit cap (e room).left) (λ why g k c room. k) reset_fit
        (λ wait x g b k c room. answered_fit wait x g b k room)

    abbrev Numbered : Ending → Type 0
    Numbered a = owed.Numbered (rules_of cap page s) (ending_of a)

    reset_number : (g : AppWorld) → Fit cap g → (room : List ℕ) → Numbered (reset_of g room)
    unfolding reset_of
    reset_number g k room = record { loud = refl; closes = refl; few = omega arith }

    answered_number : (wait : ℕ) (x : Replied) (g : AppWorld) → g.state.numbers.closed ≡ false → (room : List ℕ) → Numbered (answered_of cap wait x g room)
    unfolding answered_of reply_of
    answered_number wait x g c room = record { loud = refl; closes = c; few = omega arith }

    pub act_number : (room : List ℕ) → Numbered (act_of cap s kind w room)
    act_number =
        act_all s i kind w v u (λ (e : List ℕ → Ending). (room : List ℕ) → Numbered (e room))
        (λ why g k c room. record { loud = refl; closes = c; few = omega arith }) reset_number (λ wait x g b k c room. answered_number wait x g c room)

    -- the same but for what stands in the room past the reply
    abbrev Same : Ending → Ending → Type 0
    Same a b = owed.Same (ending_of a) (ending_of b)

    abbrev AnyRoom : (List ℕ → Ending) → Type 0
    AnyRoom e = (room other : List ℕ) → 12 + cap ≤ length room → 12 + cap ≤ length other → Same (e room) (e other)

    reset_same : (g : AppWorld) → Fit cap g → AnyRoom (reset_of g)
    unfolding reset_of
    reset_same g k room other r o = record { event = refl; left = refl }

    answered_same : (wait : ℕ) (x : Replied) (g : AppWorld) → Kept cap x.bytes → AnyRoom (answered_of cap wait x g)
    unfolding answered_of
    answered_same wait x g b room other r o =
        let k = reply_same cap x.status x.len false wait x.bytes b.0 room other r o in
        record { event = k.event; left = ap (λ (f : List ℕ). frame_set f g) k.bytes }

    pub same_room : AnyRoom (act_of cap s kind w)
    same_room =
        act_all s i kind w v u AnyRoom (λ why g k c room other r o. record { event = refl; left = refl }) reset_same
        (λ wait x g b k c. answered_same wait x g b)
