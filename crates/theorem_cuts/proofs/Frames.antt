-- Of every request: what it makes of the record is the change that is said of it, and each cut of a rewrite is decided.
use Prim.Native.Nat.{ℕ, ◌<◌, ◌+◌}
use mathlib.Core.Path.{◌≡◌, refl, subst, ◌∙◌}
use mathlib.Core.List.{List}
use mathlib.Core.Bool.{Bool, true, false, not, ◌&&◌, ◌||◌}
use native.Mathlib.Omega.{arith}
use lib.ListN.{length}
use lib.Dec.{eqb, ltb}
use Rattle.laws.specs.Pick.{pick}
use Rattle.wire_numbers.specs.Flags.{bit_set}
use Rattle.store_flash.specs.Flash as flash
use Rattle.store_record.specs.Record.{updating, validating, fresh_of, row_of, advanced, refreshed, row_set}
use Rattle.store_record.proofs.Record.{fresh_length, row_of_length}
use Rattle.wire_frames.specs.Fields.{cmd_of, addr_of, flags_of, Ok, AddrOutOfBounds, Unsupported, Incompatible}
use Rattle.cmd_erase.specs.Erase.{range_fits, readied, erase_of, erased_to, erased_by, byte_count_of}
use Rattle.cmd_write.specs.Write.{write_of}
use Rattle.cmd_verify.specs.Verify.{Verified, verify_of, verified_to, recorded, key_fits}
use Rattle.cmd_reset.specs.Reset.{Resets, reset_of, resets_to, reset_refused, row_stored, baud_asked, position_asked}
use Rattle.device_state.specs.declared.Setup.{Setup}
use Rattle.device_state.specs.State.{World, frame_set, meta_set}
use Rattle.device_state.proofs.Limits.{set_up_limits}
use Rattle.device_handler.specs.Handling.{handled_of, bare, loaded, crc_laid, after_info, after_erase, after_write, after_verify, after_reset}
use Rattle.theorem_cuts.specs.Frames.{Change, stays, steps, rewrites, erase_change, verify_change, reset_change, change_of, changed}
use Rattle.theorem_cuts.specs.Frames.{ChangesWhole, FramesDecided}
use Rattle.theorem_cuts.proofs.Cuts.{cuts_decided}

module _ (f cells meta : List ℕ) where
  erase_whole : (page erase capacity : ℕ) → (erase_of page erase capacity f cells meta).meta ≡ changed (erase_change erase capacity f meta) meta
  unfolding erase_of readied
  erase_whole page erase capacity = go (range_fits erase capacity f) (updating meta) (validating meta)
    where
      go : (r u v : Bool) →
          (pick (not r) (erased_to AddrOutOfBounds cells meta)
          (erased_by (flash.pages_erased page cells (addr_of f) (addr_of f + byte_count_of f))
          (pick u meta (pick v (refreshed meta 0xFFFF 0x7F 0xFFFFFFFF) (advanced meta))))).meta
          ≡ changed (pick (not r) stays (pick u stays (pick v (rewrites (fresh_of meta 0xFFFF 0x7F 0xFFFFFFFF)) steps))) meta
      go false u v = refl
      go true true v = refl
      go true false true = refl
      go true false false = refl

  verify_whole : (key capacity : ℕ) → (verify_of key capacity f cells meta).meta ≡ changed (verify_change f meta (verify_of key capacity f cells meta)) meta
  unfolding verify_of
  verify_whole key capacity = go (updating meta) (eqb (addr_of f) 0 || ltb capacity (addr_of f)) (key_fits key capacity cells (addr_of f))
    where
      judged : (u o k : Bool) → Verified
      judged u o k =
          pick (not u) (verified_to Unsupported 0 meta)
          (pick o (verified_to AddrOutOfBounds 0 meta) (pick (not k) (verified_to Incompatible 0 meta) (recorded cells meta (addr_of f))))

      go : (u o k : Bool) → (judged u o k).meta ≡ changed (verify_change f meta (judged u o k)) meta
      go false o k = refl
      go true true k = refl
      go true false false = refl
      go true false true = refl

  reset_whole : (reset_of f cells meta).meta ≡ changed (reset_change f meta (reset_of f cells meta)) meta
  unfolding reset_of row_stored
  reset_whole = go (reset_refused f cells meta) (bit_set 1 (flags_of f) || bit_set 2 (flags_of f))
    where
      answered : Bool → Bool → Resets
      answered r b = pick r (resets_to Unsupported meta) (resets_to Ok (pick b (row_set meta (baud_asked f meta) (position_asked f meta)) meta))

      go : (r b : Bool) → (answered r b).meta ≡
          changed (pick (eqb (answered r b).status Ok && b) (rewrites (row_of meta (baud_asked f meta) (position_asked f meta))) stays) meta
      go true b = refl
      go false true = refl
      go false false = refl

-- whatever its status, a Verify's record is the one that is left
verified_meta : (w : World) (v : Verified) → (after_verify w v).left.meta ≡ v.meta
verified_meta w v = go (eqb v.status Ok)
  where
    go : (t : Bool) →
        (pick t (loaded 2 (frame_set (crc_laid v.crc w.state.frame) (meta_set v.meta w))) (bare v.status (meta_set v.meta w))).left.meta ≡ v.meta
    go true = refl
    go false = refl

pub changes_whole : (cap page : ℕ) → ChangesWhole cap page
unfolding handled_of
changes_whole cap page s w =
    go (eqb cmd 0) (eqb cmd 1) (eqb cmd 2) (eqb cmd 3) (eqb cmd 4)
  where
    f : List ℕ
    f = w.state.frame

    cmd : ℕ
    cmd = cmd_of f

    go : (a b c d e : Bool) →
        (pick a (after_info cap s w)
        (pick b (after_erase w (erase_of page s.erase_size s.capacity f w.flash w.meta))
        (pick c
        (after_write w (write_of page s.capacity f w.flash w.state.page w.state.numbers.fill w.state.numbers.next w.meta))
        (pick d (after_verify w (verify_of s.key s.capacity f w.flash w.meta))
        (pick e (after_reset w (reset_of f w.flash w.meta)) (bare Unsupported w)))))).left.meta
        ≡ changed
        (pick a stays
        (pick b (erase_change s.erase_size s.capacity f w.meta)
        (pick c stays
        (pick d (verify_change f w.meta (verify_of s.key s.capacity f w.flash w.meta))
        (pick e (reset_change f w.meta (reset_of f w.flash w.meta)) stays)))))
        w.meta
    go true b c d e = refl
    go false true c d e = erase_whole f w.flash w.meta page s.erase_size s.capacity
    go false false true d e = refl
    go false false false true e =
        verified_meta w (verify_of s.key s.capacity f w.flash w.meta) ∙ verify_whole f w.flash w.meta s.key s.capacity
    go false false false false true = reset_whole f w.flash w.meta
    go false false false false false = refl

-- a new record is as long as the old one
abbrev pub Like : List ℕ → Change → Type 0
Like m stays = Unit {0}
Like m steps = Unit {0}
Like m (rewrites new) = length new ≡ length m

change_like : (s : Setup) (w : World) → Like w.meta (change_of s w)
change_like s w =
    go (eqb cmd 0) (eqb cmd 1) (eqb cmd 2) (eqb cmd 3) (eqb cmd 4) (not (range_fits s.erase_size s.capacity f)) (updating m) (validating m)
    (eqb v.status Ok) (eqb (reset_of f w.flash m).status Ok && (bit_set 1 (flags_of f) || bit_set 2 (flags_of f)))
  where
    f : List ℕ
    f = w.state.frame

    m : List ℕ
    m = w.meta

    cmd : ℕ
    cmd = cmd_of f

    v : Verified
    v = verify_of s.key s.capacity f w.flash m

    go : (a b c d e r u k o t : Bool) →
        Like m
        (pick a stays
        (pick b (pick r stays (pick u stays (pick k (rewrites (fresh_of m 0xFFFF 0x7F 0xFFFFFFFF)) steps)))
        (pick c stays
        (pick d (pick o (rewrites (fresh_of m v.crc 0x3F (addr_of f))) stays)
        (pick e (pick t (rewrites (row_of m (baud_asked f m) (position_asked f m))) stays) stays)))))
    go true b c d e r u k o t = tt
    go false true c d e true u k o t = tt
    go false true c d e false true k o t = tt
    go false true c d e false false true o t = fresh_length m 0xFFFF 0x7F 0xFFFFFFFF
    go false true c d e false false false o t = tt
    go false false true d e r u k o t = tt
    go false false false true e r u k true t = fresh_length m v.crc 0x3F (addr_of f)
    go false false false true e r u k false t = tt
    go false false false false true r u k o true = row_of_length m (baud_asked f m) (position_asked f m)
    go false false false false true r u k o false = tt
    go false false false false false r u k o t = tt

pub frames-decided : (page : ℕ) → FramesDecided page
frames-decided page s w new u n e mode =
    let l : length new ≡ 12 = subst (Like w.meta) e (change_like s w) ∙ n in
    let c : s.capacity < 0xFFFFFFFF = omega (arith, (set_up_limits page s u).1) in
    cuts_decided s.capacity mode w.flash w.meta new c n l
