-- What a frame's end keeps: the lengths of frame, flash and record, a run of writes that is well formed, and that no frame is begun.
use Prim.Native.Nat.{ℕ, ◌≤◌}
use mathlib.Core.Path.{◌≡◌, refl, ◌∙◌}
use mathlib.Core.Bool.{Bool, true, false}
use mathlib.Core.List.{List}
use native.Mathlib.Omega.{arith}
use lib.ListN.{length, length-take, length-set}
use lib.Dec.{eqb}
use Rattle.laws.specs.Pick.{pick}
use Rattle.wire_frames.specs.declared.frame.Kind.{Kind}
use Rattle.wire_frames.specs.Fields.{cmd_of, Unsupported}
use Rattle.wire_frames.specs.Reading.{kind_status}
use Rattle.cmd_erase.specs.Erase.{erase_of}
use Rattle.cmd_write.specs.Write.{write_of}
use Rattle.cmd_verify.specs.Verify.{Verified, verify_of}
use Rattle.cmd_info.specs.Info.{info_of, info_laid}
use Rattle.cmd_reset.specs.Reset.{reset_of}
use Rattle.cmd_erase.proofs.Erasing.{erase_flash_length, erase_meta_length}
use Rattle.cmd_write.proofs.Runs.{Pending, write-lengths, write_pending}
use Rattle.cmd_verify.proofs.Verifying.{verify-length}
use Rattle.cmd_info.proofs.Informing.{info-length, laid-length}
use Rattle.cmd_reset.proofs.Resetting.{reset-length}
use Rattle.device_state.specs.declared.Setup.{Setup}
use Rattle.device_state.specs.State.{World, frame_set, meta_set, numbers_set, selected_set, closed_set}
use Rattle.device_handler.specs.Handling.{Obeyed, bare, loaded, after_info, after_erase, after_write, crc_laid, after_verify, after_reset, handled_of}
use Rattle.device_turns.specs.declared.Silence.{Silence}
use Rattle.device_turns.specs.declared.Turn.{Turn}
use Rattle.device_turns.specs.Turns.{Turned, turn_of}
use Rattle.device_replies.specs.Reply.{reply_of}
use Rattle.theorem_streams.proofs.Stored.{Synced}
use Rattle.theorem_streams.proofs.Replies.{Kept, sync_on, turned-kept, reply-kept}
use Rattle.device_dispatcher.specs.Dispatch.{Ending, silent, answered_of, good, obeyed_of, turning, done_of, after_turn, dispatch_of}

pub record Fit (s : Setup) (w : World) : Type 0 where
  pub whole : length w.state.frame ≡ 64
  pub synced : Synced w.state.frame
  pub none : w.state.numbers.got ≡ 0
  pub run : Pending s.capacity w.state.numbers.fill w.state.numbers.next
  pub flash : length w.flash ≡ s.capacity
  pub meta : length w.meta ≡ 12

-- other bytes of the same length, selected or not, closed or not
other_fit : (s : Setup) (w : World) (f : List ℕ) (selected closed : Bool) → Fit s w → length f ≡ 64 → Synced f →
    Fit s (numbers_set (closed_set closed (selected_set selected w.state.numbers)) (frame_set f w))
other_fit s w f selected closed v e k = record { whole = e; synced = k; none = v.none; run = v.run; flash = v.flash; meta = v.meta }

module _ (s : Setup) (w : World) (v : Fit s w) where
  abbrev f : List ℕ
  f = w.state.frame

  -- the same world with another frame
  frame_fit : (g : List ℕ) → length g ≡ 64 → Synced g → Fit s (frame_set g w)
  frame_fit g = other_fit s w g w.state.numbers.selected w.state.numbers.closed v

  -- with another record
  meta_fit : (m : List ℕ) → length m ≡ 12 → Fit s (meta_set m w)
  meta_fit m e = record { whole = v.whole; synced = v.synced; none = v.none; run = v.run; flash = v.flash; meta = e }

  verified_fit : Fit s (after_verify w (verify_of s.key s.capacity f w.flash w.meta)).left
  verified_fit = go (eqb (verify_of s.key s.capacity f w.flash w.meta).status 1)
    where
      r : Verified
      r = verify_of s.key s.capacity f w.flash w.meta

      m : length r.meta ≡ 12
      m = verify-length s.key s.capacity f w.flash w.meta ∙ v.meta

      go : (t : Bool) → Fit s (pick t (loaded 2 (frame_set (crc_laid r.crc f) (meta_set r.meta w))) (bare r.status (meta_set r.meta w))).left
      go true =
          record {
            whole = simp (length-set, length-set) v.whole;
            synced = sync_on f v.synced (crc_laid r.crc) (λ l. refl);
            none = v.none;
            run = v.run;
            flash = v.flash;
            meta = m;
          }
      go false = meta_fit r.meta m

  handled_fit : Fit s (handled_of 52 64 s w).left
  unfolding handled_of
  handled_fit = go (eqb n 0) (eqb n 1) (eqb n 2) (eqb n 3) (eqb n 4)
    where
      n : ℕ
      n = cmd_of f

      go : (a b c d e : Bool) →
          Fit s
          (pick a (after_info 52 s w)
          (pick b (after_erase w (erase_of 64 s.erase_size s.capacity f w.flash w.meta))
          (pick c (after_write w (write_of 64 s.capacity f w.flash w.state.page w.state.numbers.fill w.state.numbers.next w.meta))
          (pick d (after_verify w (verify_of s.key s.capacity f w.flash w.meta))
          (pick e (after_reset w (reset_of f w.flash w.meta))
          (bare Unsupported w)))))).left
      go true b c d e =
          let i = info_of 52 s.capacity s.erase_size s.version s.key w.flash w.meta in
          frame_fit (info_laid f i)
          (laid-length f i (omega (arith, v.whole)) (info-length 52 s.capacity s.erase_size s.version s.key w.flash w.meta) ∙ v.whole)
          (sync_on f v.synced (λ (l : List ℕ). info_laid l i) (λ l. refl))
      go false true c d e =
          record {
            whole = v.whole;
            synced = v.synced;
            none = v.none;
            run = v.run;
            flash = erase_flash_length 64 s.erase_size s.capacity f w.flash w.meta ∙ v.flash;
            meta = erase_meta_length 64 s.erase_size s.capacity f w.flash w.meta ∙ v.meta;
          }
      go false false true d e =
          record {
            whole = v.whole;
            synced = v.synced;
            none = v.none;
            run = write_pending s.capacity f w.flash w.state.page w.state.numbers.fill w.state.numbers.next w.meta v.flash v.run;
            flash = (write-lengths s.capacity f w.flash w.state.page w.state.numbers.fill w.state.numbers.next w.meta).0 ∙ v.flash;
            meta = v.meta;
          }
      go false false false true e = verified_fit
      go false false false false true = meta_fit (reset_of f w.flash w.meta).meta (reset-length f w.flash w.meta ∙ v.meta)
      go false false false false false = v

pub answered_fit : (s : Setup) (wait : ℕ) (x : Obeyed) (room : List ℕ) → Fit s x.left → Fit s (answered_of 52 wait x room).left
unfolding answered_of
answered_fit s wait x room v =
    let f = x.left.state.frame in
    let k = reply-kept 52 x.status x.len x.restart wait f room (v.whole, v.synced) in
    other_fit s x.left (reply_of 52 x.status x.len x.restart wait f room).bytes x.left.state.numbers.selected x.restart v k.0 k.1

-- whatever holds of silence and of a reply, of a device as it should be, holds of a frame's end
module _ (s : Setup) (kind : Kind) (w : World) (i : s.id_len ≤ 16) (v : Fit s w) (u : w.state.numbers.closed ≡ false) (P : (List ℕ → Ending) → Type 0)
    (mute : (why : Silence) (g : World) → Fit s g → g.state.numbers.closed ≡ false → P (silent why g))
    (speak : (wait : ℕ) (x : Obeyed) → Fit s x.left → P (answered_of 52 wait x)) where
  obeyed_fit : (g : World) → Fit s g → Fit s (obeyed_of 52 64 s kind g).left
  unfolding obeyed_of
  obeyed_fit g k = go (good kind)
    where
      go : (t : Bool) → Fit s (pick t (handled_of 52 64 s g) (bare (kind_status kind) g)).left
      go true = handled_fit s g k
      go false = k

  done_fit : (chosen : Bool) (g : World) → Fit s g → Fit s (done_of 52 64 s kind chosen g).left
  done_fit true g k = k
  done_fit false g k = obeyed_fit g k

  -- a turn leaves a frame of as many bytes, and its AA 55
  turn_kept : Kept 52 (turn_of s.id s.id_len kind w.state.frame w.state.numbers.selected).bytes
  turn_kept =
      turned-kept 52 s.id s.id_len (omega (arith, length-take s.id_len s.id)) kind w.state.frame w.state.numbers.selected
      (v.whole, v.synced)

  pub dispatch_all : P (dispatch_of 52 64 s kind w)
  unfolding dispatch_of
  dispatch_all = go t.turn
    where
      t : Turned
      t = turn_of s.id s.id_len kind w.state.frame w.state.numbers.selected

      fit : (on : Bool) → Fit s (turning on t.bytes w)
      fit on = other_fit s w t.bytes on w.state.numbers.closed v turn_kept.0 turn_kept.1

      go : (x : Turn) → P (λ (room : List ℕ). after_turn 52 64 s kind w room t.bytes x)
      go (Turn.Silent why on) = mute why (turning on t.bytes w) (fit on) u
      go (Turn.Reply chosen on wait) = speak wait (done_of 52 64 s kind chosen (turning on t.bytes w)) (done_fit chosen (turning on t.bytes w) (fit on))

pub dispatch_fit : (s : Setup) (kind : Kind) (w : World) → s.id_len ≤ 16 → Fit s w → w.state.numbers.closed ≡ false → (room : List ℕ) →
    Fit s (dispatch_of 52 64 s kind w room).left
dispatch_fit s kind w i v u =
    dispatch_all s kind w i v u (λ (e : List ℕ → Ending). (room : List ℕ) → Fit s (e room).left) (λ why g k c room. k)
    (λ wait x k room. answered_fit s wait x room k)
