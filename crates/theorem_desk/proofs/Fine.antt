-- What a reply has to be, to be heard as what is meant; said of the frame alone, for the bootloader and for the app.
use Prim.Native.Nat.{ℕ, ◌+◌, ◌^◌, ◌≤◌, ◌<◌}
use mathlib.Core.Path.{◌≡◌, refl, ap, sym, subst, ◌∙◌}
use mathlib.Core.List.{List, [], ◌∷◌, ◌++◌}
use mathlib.Core.Bool.{Bool, true, false, ◌&&◌}
use native.Mathlib.Omega.{arith}
use borrow.Author.Tests.{le-leb}
use lib.ListN.{length, take, drop, length-append, length-drop}
use lib.Seq.{take_at, drop_at, length-take-le}
use lib.Dec.{eqb}
use Rattle.laws.specs.Pick.{pick}
use Rattle.laws.specs.Low.{low_first}
use Rattle.wire_info.specs.Info.{info_read}
use Rattle.wire_info.specs.declared.InfoData.{InfoData}
use Rattle.wire_frames.specs.Fields.{cmd_of}
use Rattle.cmd_info.specs.Info.{info_laid}
use Rattle.cmd_select.specs.Select.{copied}
use Rattle.cmd_select.proofs.Selecting.{copied-length, copied-header, copied_id}
use Rattle.device_replies.specs.Reply.{reply_of}
use Rattle.desk_replies.specs.Replies.{Typed, info, verify, select, plain, contents_of, reply}
use Rattle.theorem_desk.specs.Meant.{head_meant}
use Rattle.theorem_desk.proofs.Spoken.{Answers, spoken_heard}

-- a reply of this status and length, built in the bytes x, to the request in the frame f, whose contents are meant to be t
pub record Fine (cap : ℕ) (f : List ℕ) (status len : ℕ) (x : List ℕ) (t : Typed) : Type 0 where
  pub whole : length x ≡ 12 + cap
  pub front : take 10 x ≡ take 10 f
  pub some : 1 ≤ status
  pub known : status ≤ 7
  pub short : len ≤ cap
  pub load : contents_of (cmd_of f) len (take len (drop 10 x)) ≡ t

pub fine_heard : (cap : ℕ) → cap < 256 ^ 2 → (f : List ℕ) → f ≡ 0xAA ∷ 0x55 ∷ drop 2 f → cmd_of f ≤ 5 → (status len : ℕ) (x : List ℕ) (t : Typed) →
    Fine cap f status len x t → (due : Bool) (wait : ℕ) (room : List ℕ) → 12 + cap ≤ length room →
    Answers cap (reply (head_meant f status len) t) (reply_of cap status len due wait x room)
fine_heard cap z f y c status len x t k due wait room r =
    subst (λ (t : Typed). Answers cap (reply (head_meant f status len) t) (reply_of cap status len due wait x room)) k.load
    (spoken_heard cap status len due wait room r k.some k.known k.short z x f k.whole k.front y c)

-- no data are plain, whatever the command
none_plain : (cmd : ℕ) (d : List ℕ) → contents_of cmd 0 d ≡ plain d
unfolding contents_of
none_plain cmd d = go (eqb cmd 0) (eqb cmd 3) (eqb cmd 5)
  where
    go : (a b c : Bool) →
        pick (a && false) (info (info_read d)) (pick (b && false) (verify (low_first d)) (pick (c && (false && true)) (select d) (plain d))) ≡ plain d
    go true true true = refl
    go true true false = refl
    go true false true = refl
    go true false false = refl
    go false true true = refl
    go false true false = refl
    go false false true = refl
    go false false false = refl

-- a status and nothing else, in a frame that is as it was
pub fine_bare : (cap : ℕ) (f : List ℕ) (status : ℕ) (x : List ℕ) (t : Typed) → x ≡ f → length f ≡ 12 + cap → 1 ≤ status → status ≤ 7 → t ≡ plain [] →
    Fine cap f status 0 x t
fine_bare cap f status x t e l a b m =
    record {
      whole = ap length e ∙ l;
      front = ap (take 10) e;
      some = a;
      known = b;
      short = omega arith;
      load = none_plain (cmd_of f) [] ∙ sym m;
    }

-- contents, by command and length
info_load : (cmd : ℕ) (d : List ℕ) (m : InfoData) (y : Typed) → cmd ≡ 0 → info_read d ≡ m → contents_of cmd 18 d ≡ pick (eqb 1 1 && eqb cmd 0) (info m) y
unfolding contents_of
info_load cmd d m y e k = rw e (ap info k)

pub crc_load : (cmd : ℕ) (d : List ℕ) (c : ℕ) (x y : Typed) → cmd ≡ 3 → low_first d ≡ c →
    contents_of cmd 2 d ≡ pick (eqb 1 1 && eqb cmd 0) x (pick (eqb 1 1 && eqb cmd 3) (verify c) y)
unfolding contents_of
crc_load cmd d c x y e k = rw e (ap verify k)

id_load : (cmd n : ℕ) (d : List ℕ) → cmd ≡ 5 → 1 ≤ n → n ≤ 16 → contents_of cmd n d ≡ select d
unfolding contents_of
id_load cmd n d e a b = rw (e, le-leb 1 n a, le-leb n 16 b) refl

-- Info's eighteen bytes i, which are read back as m
pub fine_info : (cap : ℕ) → 18 ≤ cap → (f i : List ℕ) (m : InfoData) (y : Typed) → length f ≡ 12 + cap → cmd_of f ≡ 0 → length i ≡ 18 → info_read i ≡ m →
    Fine cap f 1 18 (info_laid f i) (pick (eqb 1 1 && eqb (cmd_of f) 0) (info m) y)
fine_info cap enough f i m y whole e n k =
    let header : length (take 10 f) ≡ 10 = length-take-le 10 f (omega arith) in
    let d : take 18 (drop 10 (info_laid f i)) ≡ i = rw (drop_at (take 10 f) (i ++ drop 28 f) 10 header) (take_at i (drop 28 f) 18 n) in
    record {
      whole = simp (length-append, header, n, length-drop) (omega arith);
      front = take_at (take 10 f) (i ++ drop 28 f) 10 header;
      some = omega arith;
      known = omega arith;
      short = enough;
      load = info_load (cmd_of f) (take 18 (drop 10 (info_laid f i))) m y e (ap info_read d ∙ k);
    }

-- who was chosen: the id in the data area
pub fine_chosen : (cap : ℕ) → 18 ≤ cap → (f id : List ℕ) → length f ≡ 12 + cap → cmd_of f ≡ 5 → 1 ≤ length id → length id ≤ 16 →
    Fine cap f 1 (length id) (copied id f) (select id)
fine_chosen cap enough f id whole e a b =
    record {
      whole = copied-length id f (omega arith) ∙ whole;
      front = copied-header id f (omega arith);
      some = omega arith;
      known = omega arith;
      short = omega arith;
      load = id_load (cmd_of f) (length id) _ e a b ∙ ap select (copied_id id f (omega arith));
    }
