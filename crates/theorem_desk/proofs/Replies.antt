-- Each reply of the bootloader is heard as what it means.
use Prim.Native.Nat.{ℕ, ◌+◌, ◌-◌, ◌/◌, ◌%◌, ◌^◌, ◌≤◌, ◌<◌}
use mathlib.Core.Path.{◌≡◌, refl, ap, ◌∙◌}
use mathlib.Core.List.{List, [], ◌∷◌}
use mathlib.Core.Bool.{Bool, true, false, not, ◌&&◌, ◌||◌}
use native.Mathlib.Omega.{arith}
use borrow.Author.Tests.{eqb-true, eqb-false, ne_eqb}
use lib.ListN.{length, get_or, take, drop, set, length-set}
use lib.Seq.{drop-cons, length-take-le, take-set-le, get_or-set_same, get_or-set_other}
use lib.Dec.{eqb, ltb}
use Rattle.laws.specs.Pick.{pick}
use Rattle.laws.specs.Low.{low_first}
use Rattle.wire_numbers.specs.Crc.{crc_of}
use Rattle.wire_numbers.proofs.Bytes.{read_back}
use Rattle.wire_numbers.proofs.Serial.{crc_small}
use Rattle.wire_info.specs.Info.{info_read}
use Rattle.wire_info.proofs.Told.{info_there_and_back}
use Rattle.wire_frames.specs.Fields.{cmd_of, addr_of, Unsupported}
use Rattle.store_record.specs.Record.{size_of, updating}
use Rattle.cmd_info.specs.Info.{app_version, info_of}
use Rattle.store_flash.specs.Flash as flash
use Rattle.cmd_erase.specs.Erase.{erased_to, readied, range_fits, byte_count_of, erase_of}
use Rattle.cmd_write.specs.Write.{Run, wrote_to, done, begin, write_fits, written_of, write_of}
use Rattle.cmd_verify.specs.Verify.{Verified, verified_to, key_fits, recorded, verify_of}
use Rattle.cmd_reset.specs.Reset.{resets_to, reset_refused, row_stored, reset_of}
use Rattle.device_state.specs.declared.Setup.{Setup}
use Rattle.device_state.specs.State.{World, frame_set, meta_set}
use Rattle.device_handler.specs.Handling.{Obeyed, bare, loaded, after_info, after_erase, after_write, crc_laid, after_verify, after_reset, handled_of}
use Rattle.cmd_select.specs.Select.{copied}
use Rattle.device_dispatcher.specs.Dispatch.{Ending, answered_of, id_of, turning}
use Rattle.desk_replies.specs.Replies as desk
use Rattle.desk_replies.specs.Replies.{info, verify, plain}
use Rattle.theorem_desk.specs.Meant.{info_meant, contents_meant, replied_by}
use Rattle.theorem_desk.specs.Desk.{Wide, Hears}
use Rattle.theorem_desk.proofs.Fine as fine
use Rattle.theorem_desk.proofs.Fine.{fine_bare, crc_load}

-- whatever waits hears this of a frame's end
abbrev pub Claim : ℕ → desk.Told → Ending → Type 0
Claim cap t e = Hears cap t e.told.len e.room

-- a command as it should reply to the request in the world w
abbrev pub Fine : ℕ → Setup → Bool → World → Obeyed → Type 0
Fine cap s chosen w x = fine.Fine cap w.state.frame x.status x.len x.left.state.frame (contents_meant cap s chosen x.status w)

pub fine_heard : (cap : ℕ) → cap < 256 ^ 2 → (s : Setup) (chosen : Bool) (w : World) → w.state.frame ≡ 0xAA ∷ 0x55 ∷ drop 2 w.state.frame →
    cmd_of w.state.frame ≤ 5 → (x : Obeyed) → Fine cap s chosen w x → (wait : ℕ) (room : List ℕ) → 12 + cap ≤ length room →
    Claim cap (replied_by cap s chosen w x) (answered_of cap wait x room)
unfolding answered_of
fine_heard cap z s chosen w y c x k wait room r =
    fine.fine_heard cap z w.state.frame y c x.status x.len x.left.state.frame (contents_meant cap s chosen x.status w) k x.restart wait room
    r

-- a reply without contents
module _ (cap : ℕ) (s : Setup) (status : ℕ) (w : World) where
  refused_meant : (status ≡ 1 → ⊥) → contents_meant cap s false status w ≡ plain []
  refused_meant h = simp (ne_eqb status 1 h)

  other_meant : (cmd_of w.state.frame ≡ 0 → ⊥) → (cmd_of w.state.frame ≡ 3 → ⊥) → contents_meant cap s false status w ≡ plain []
  other_meant h k = simp (ne_eqb (cmd_of w.state.frame) 0 h, ne_eqb (cmd_of w.state.frame) 3 k) (go (eqb status 1))
    where
      go : (t : Bool) → pick (t && false) (info (info_meant cap s w))
          (pick (t && false) (verify (crc_of (take (addr_of w.state.frame) w.flash))) (plain [])) ≡ plain []
      go true = refl
      go false = refl

-- the statuses of the commands
abbrev pub Known : ℕ → Type 0
Known n = (1 ≤ n) × (n ≤ 7)

erase_known : (page erase capacity : ℕ) (f cells meta : List ℕ) → Known (erase_of page erase capacity f cells meta).status
unfolding erase_of
erase_known page erase capacity f cells meta =
    go (not (range_fits erase capacity f)) (eqb (flash.pages_erased page cells (addr_of f) (addr_of f + byte_count_of f)).answer 0)
  where
    go : (a b : Bool) →
        Known (pick a (erased_to 4 cells meta)
        (erased_to (pick b 1 2) (flash.pages_erased page cells (addr_of f) (addr_of f + byte_count_of f)).cells (readied meta))).status
    go true b = (omega arith, omega arith)
    go false true = (omega arith, omega arith)
    go false false = (omega arith, omega arith)

write_known : (page capacity : ℕ) (f flash p : List ℕ) (fill next : ℕ) (meta : List ℕ) → Known (write_of page capacity f flash p fill next meta).status
unfolding write_of
write_known page capacity f flash p fill next meta = go (not (updating meta)) (not (write_fits page capacity f next)) (written_of page f (begin page f flash p))
  where
    last : (t : Bool) → Known (pick t 2 1)
    last true = (omega arith, omega arith)
    last false = (omega arith, omega arith)

    go : (a b : Bool) (r : Run) → Known (pick a (wrote_to 5 flash p fill next) (pick b (wrote_to 4 flash p fill next) (done r))).status
    go true b r = (omega arith, omega arith)
    go false true r = (omega arith, omega arith)
    go false false r = last r.failed

reset_known : (f flash meta : List ℕ) → Known (reset_of f flash meta).status
unfolding reset_of
reset_known f flash meta = go (reset_refused f flash meta)
  where
    go : (t : Bool) → Known (pick t (resets_to 5 meta) (resets_to 1 (row_stored f meta))).status
    go true = (omega arith, omega arith)
    go false = (omega arith, omega arith)

-- a Verify that is Ok has the CRC of as many bytes as its address says
abbrev Verifies : List ℕ → List ℕ → Verified → Type 0
Verifies f flash v = Known v.status × (v.status ≡ 1 → v.crc ≡ crc_of (take (addr_of f) flash))

verify_known : (key capacity : ℕ) (f flash meta : List ℕ) → Verifies f flash (verify_of key capacity f flash meta)
unfolding verify_of
verify_known key capacity f flash meta =
    go (not (updating meta)) (eqb (addr_of f) 0 || ltb capacity (addr_of f)) (not (key_fits key capacity flash (addr_of f)))
  where
    go : (a b c : Bool) → Verifies f flash
        (pick a (verified_to 5 0 meta) (pick b (verified_to 4 0 meta) (pick c (verified_to 7 0 meta) (recorded flash meta (addr_of f)))))
    go true b c = ((omega arith, omega arith), λ e. absurd (omega arith))
    go false true c = ((omega arith, omega arith), λ e. absurd (omega arith))
    go false false true = ((omega arith, omega arith), λ e. absurd (omega arith))
    go false false false = ((omega arith, omega arith), λ e. refl)

version_small : (capacity : ℕ) (flash meta : List ℕ) → ((i : ℕ) → get_or flash i 0xFF < 256) → app_version capacity flash meta < 256 ^ 2
unfolding app_version
version_small capacity flash meta h = go (ltb (size_of meta) 2 || ltb capacity (size_of meta))
  where
    go : (t : Bool) → pick t 0xFFFF (low_first (get_or flash (size_of meta - 2) 0xFF ∷ get_or flash (size_of meta - 1) 0xFF ∷ [])) < 256 ^ 2
    go true = omega arith
    go false = omega (arith, h (size_of meta - 2), h (size_of meta - 1))

-- the world w whose frame has the request in it, in a device of this setup
module _ (cap page : ℕ) (enough : 18 ≤ cap) (small : cap < 256 ^ 2) (s : Setup) (w : World) (wide : Wide s w) (capacity : s.capacity ≤ 65536)
    (erase : s.erase_size ≤ 32768) (whole : length w.state.frame ≡ 12 + cap) where
  abbrev f : List ℕ
  f = w.state.frame

  abbrev n : ℕ
  n = cmd_of f

  -- the same world, selected or not
  abbrev v : Bool → World
  v on = turning on f w

  abbrev i : List ℕ
  i = info_of cap s.capacity s.erase_size s.version s.key w.flash w.meta

  read_info : info_read i ≡ info_meant cap s w
  unfolding info_of
  read_info =
      info_there_and_back (info_meant cap s w) (omega arith) (omega arith) wide.version (version_small s.capacity w.flash w.meta wide.flash)
      wide.key small

  info_long : length i ≡ 18
  unfolding info_of
  info_long = refl

  fine_info : (on : Bool) → n ≡ 0 → Fine cap s false w (after_info cap s (v on))
  fine_info on e = fine.fine_info cap enough f i (info_meant cap s w) _ whole e info_long read_info

  -- Verify
  abbrev p : Verified
  p = verify_of s.key s.capacity f w.flash w.meta

  laid : (a b : ℕ) → take 2 (drop 10 (set (set f 10 a) 11 b)) ≡ a ∷ b ∷ []
  laid a b =
      let g : List ℕ = set (set f 10 a) 11 b in
      let l : length g ≡ length f = simp (length-set, length-set) in
      let x : get_or g 11 0 ≡ b = get_or-set_same (set f 10 a) 11 b 0 (rw (length-set f 10 a) (omega arith)) in
      let y : get_or g 10 0 ≡ a = get_or-set_other (set f 10 a) 11 10 b 0 (λ e. omega arith) ∙ get_or-set_same f 10 a 0 (omega arith) in
      let c : drop 10 g ≡ get_or g 10 0 ∷ get_or g 11 0 ∷ drop 12 g =
      drop-cons g 10 0 (omega arith) ∙ ap (λ (r : List ℕ). get_or g 10 0 ∷ r) (drop-cons g 11 0 (omega arith)) in
      rw (c, x, y) refl

  fine_crc : (on : Bool) → n ≡ 3 → p.status ≡ 1 → Fine cap s false w (loaded 2 (frame_set (crc_laid p.crc f) (meta_set p.meta (v on))))
  fine_crc on e k =
      let c : p.crc ≡ crc_of (take (addr_of f) w.flash) = (verify_known s.key s.capacity f w.flash w.meta).1 k in
      let d = laid (p.crc % 256) (p.crc / 256 % 256) in
      let r : low_first (p.crc % 256 ∷ p.crc / 256 % 256 ∷ []) ≡ crc_of (take (addr_of f) w.flash) =
      ap (λ (x : ℕ). low_first (x % 256 ∷ x / 256 % 256 ∷ [])) c ∙ read_back 2 _ (crc_small 0xFFFF (take (addr_of f) w.flash) (omega arith)) in
      record {
        whole = simp (length-set, length-set) whole;
        front = take-set-le 10 (set f 10 (p.crc % 256)) 11 _ (omega arith) ∙ take-set-le 10 f 10 _ (omega arith);
        some = omega arith;
        known = omega arith;
        short = omega arith;
        load = crc_load n _ _ _ _ e (ap low_first d ∙ r);
      }

  fine_verify : (on : Bool) → n ≡ 3 → Fine cap s false w (after_verify (v on) p)
  fine_verify on e = go (eqb p.status 1) refl
    where
      go : (t : Bool) → eqb p.status 1 ≡ t →
          Fine cap s false w (pick t (loaded 2 (frame_set (crc_laid p.crc f) (meta_set p.meta (v on)))) (bare p.status (meta_set p.meta (v on))))
      go true x = fine_crc on e (eqb-true _ _ x)
      go false x =
          let k = (verify_known s.key s.capacity f w.flash w.meta).0 in
          fine_bare cap f p.status f _ refl whole k.0 k.1 (refused_meant cap s p.status w (eqb-false _ _ x))

  -- a command that is neither
  fine_other : (status : ℕ) → Known status → (n ≡ 0 → ⊥) → (n ≡ 3 → ⊥) → fine.Fine cap f status 0 f (contents_meant cap s false status w)
  fine_other status k a b = fine_bare cap f status f _ refl whole k.0 k.1 (other_meant cap s status w a b)

  pub fine_handled : (on : Bool) → Fine cap s false w (handled_of cap page s (v on))
  unfolding handled_of
  fine_handled on = go (eqb n 0) refl (eqb n 1) refl (eqb n 2) refl (eqb n 3) refl (eqb n 4) refl
    where
      go : (a : Bool) → eqb n 0 ≡ a → (b : Bool) → eqb n 1 ≡ b → (c : Bool) → eqb n 2 ≡ c → (d : Bool) → eqb n 3 ≡ d → (e : Bool) → eqb n 4 ≡ e →
          Fine cap s false w
          (pick a (after_info cap s (v on))
          (pick b (after_erase (v on) (erase_of page s.erase_size s.capacity f w.flash w.meta))
          (pick c
          (after_write (v on) (write_of page s.capacity f w.flash w.state.page w.state.numbers.fill w.state.numbers.next w.meta))
          (pick d (after_verify (v on) p)
          (pick e (after_reset (v on) (reset_of f w.flash w.meta))
          (bare Unsupported (v on)))))))
      go true x b y c z d u e t = fine_info on (eqb-true _ _ x)
      go false x true y c z d u e t =
          let k : n ≡ 1 = eqb-true _ _ y in
          fine_other _ (erase_known page s.erase_size s.capacity f w.flash w.meta) (eqb-false _ _ x) (λ h. omega arith)
      go false x false y true z d u e t =
          let k : n ≡ 2 = eqb-true _ _ z in
          fine_other _
          (write_known page s.capacity f w.flash w.state.page w.state.numbers.fill w.state.numbers.next w.meta)
          (eqb-false _ _ x) (λ h. omega arith)
      go false x false y false z true u e t = fine_verify on (eqb-true _ _ u)
      go false x false y false z false u true t =
          fine_other _ (reset_known f w.flash w.meta) (eqb-false _ _ x) (eqb-false _ _ u)
      go false x false y false z false u false t = fine_other 5 (omega arith, omega arith) (eqb-false _ _ x) (eqb-false _ _ u)

  -- a frame's error, a status that is not Ok
  pub fine_error : (on : Bool) (status : ℕ) → Known status → (status ≡ 1 → ⊥) → Fine cap s false w (bare status (v on))
  fine_error on status k h = fine_bare cap f status f _ refl whole k.0 k.1 (refused_meant cap s status w h)

  -- who was chosen
  pub fine_chosen : n ≡ 5 → 1 ≤ s.id_len → s.id_len ≤ 16 → Fine cap s true w (loaded (length (id_of s)) (turning true (copied (id_of s) f) w))
  fine_chosen e a b =
      let l : length (id_of s) ≡ s.id_len = length-take-le s.id_len s.id (rw wide.id b) in
      fine.fine_chosen cap enough f (id_of s) whole e (omega arith) (omega arith)
