-- The desk's functions, and its calls for C.
use Prim.Native.Nat.{ℕ}
use mathlib.Core.Path.{◌≡◌, refl, ap, sym, ◌∙◌}
use mathlib.Core.List.{List}
use lib.Dec.{eqb}
use Rattle.laws.specs.Pick.{pick}
use Rattle.std.specs.Prelude.{Result, Ok, Err}
use Rattle.desk_requests.specs.declared.RequestError.{RequestError}
use Rattle.desk_requests.specs.Requests.{Wrote, written_to}
use Rattle.desk_replies.specs.declared.Contents.{Contents}
use Rattle.desk_replies.specs.declared.Heard.{Heard}
use Rattle.desk_replies.specs.Replies.{Typed, info, verify, select, plain as bytes, Told, nothing, request, reply, faulty, refused, contents_to, told_of}
use Rattle.theorem_determined.specs.Determined.{Determined, DeterminedBehind}
use Rattle.theorem_determined.proofs.Apart.{plain}
use Rattle.desk_requests.proofs as desk_requests
use Rattle.desk_requests.specs.contracts as desk_requests_contracts
use Rattle.desk_replies.proofs as desk_replies
use Rattle.desk_replies.specs.contracts as desk_replies_contracts
use Rattle.c_desk.proofs as c_desk
use Rattle.c_desk.specs.contracts as c_desk_contracts

-- what a request's writing answered, of what is told of it
abbrev written_from : Wrote → Result ℕ RequestError
written_from w = pick (eqb w.number 0) (Ok w.len) (pick (eqb w.number 14) (Err RequestError.NoRoom) (Err RequestError.TooLarge))

written_back : (a : Result ℕ RequestError) (room : List ℕ) → written_from (written_to a room) ≡ a
written_back (Ok len) room = refl
written_back (Err RequestError.NoRoom) room = refl
written_back (Err RequestError.TooLarge) room = refl

written_apart : (a b : Result ℕ RequestError) (x y : List ℕ) → written_to a x ≡ written_to b y → a ≡ b
written_apart a b x y e = sym (written_back a x) ∙ ap written_from e ∙ written_back b y

-- what was heard
abbrev contents_from : Typed → Contents
contents_from (info i) = Contents.Info i
contents_from (verify crc) = Contents.Verify crc
contents_from (select d) = Contents.Select
contents_from (bytes d) = Contents.Plain

contents_back : (c : Contents) (d : List ℕ) → contents_from (contents_to c d) ≡ c
contents_back (Contents.Info i) d = refl
contents_back (Contents.Verify crc) d = refl
contents_back Contents.Select d = refl
contents_back Contents.Plain d = refl

abbrev heard_from : Told → Heard
heard_from nothing = Heard.Nothing
heard_from (request h d) = Heard.Request h
heard_from (reply h c) = Heard.Reply h (contents_from c)
heard_from (faulty status) = Heard.Faulty status
heard_from refused = Heard.Refused

heard_back : (a : Heard) (f : List ℕ) → heard_from (told_of a f) ≡ a
heard_back Heard.Nothing f = refl
heard_back (Heard.Request h) f = refl
heard_back (Heard.Reply h c) f = ap (Heard.Reply h) (contents_back c _)
heard_back (Heard.Faulty status) f = refl
heard_back Heard.Refused f = refl

heard_apart : (a b : Heard) (x y : List ℕ) → told_of a x ≡ told_of b y → a ≡ b
heard_apart a b x y e = sym (heard_back a x) ∙ ap heard_from e ∙ heard_back b y

pub write_request : Determined desk_requests_contracts.write_request.ended desk_requests.write_request.Reads.Post
write_request κs a o o' p q i =
    let e = plain p q in
    (written_apart o.0 o'.0 _ _ e i, (tt, (tt, ((e i).room, tt))))

pub ask_info : Determined desk_requests_contracts.info.ended desk_requests.info.Reads.Post
ask_info κs a o o' p q i =
    let e = plain p q in
    (written_apart o.0 o'.0 _ _ e i, ((e i).room, tt))

pub ask_erase : Determined desk_requests_contracts.erase.ended desk_requests.erase.Reads.Post
ask_erase κs a o o' p q i =
    let e = plain p q in
    (written_apart o.0 o'.0 _ _ e i, (tt, (tt, ((e i).room, tt))))

pub ask_write : Determined desk_requests_contracts.write.ended desk_requests.write.Reads.Post
ask_write κs a o o' p q i =
    let e = plain p q in
    (written_apart o.0 o'.0 _ _ e i, (tt, (tt, (tt, ((e i).room, tt)))))

pub ask_verify : Determined desk_requests_contracts.verify.ended desk_requests.verify.Reads.Post
ask_verify κs a o o' p q i =
    let e = plain p q in
    (written_apart o.0 o'.0 _ _ e i, (tt, ((e i).room, tt)))

pub ask_reset : Determined desk_requests_contracts.reset.ended desk_requests.reset.Reads.Post
ask_reset κs a o o' p q i =
    let e = plain p q in
    (written_apart o.0 o'.0 _ _ e i, (tt, (tt, ((e i).room, tt))))

pub ask_select : Determined desk_requests_contracts.select.ended desk_requests.select.Reads.Post
ask_select κs a o o' p q i =
    let e = plain p q in
    (written_apart o.0 o'.0 _ _ e i, (tt, (tt, (tt, ((e i).room, tt)))))

-- it answers a reference
pub data_of : DeterminedBehind desk_replies_contracts.data_of.ended (λ κs r. r.now) desk_replies.data_of.Reads.Post
data_of κs a o o' p q i = (plain p q i, o.1)

pub hear_part : Determined desk_replies_contracts.hear_part.ended desk_replies.hear_part.Reads.Post
hear_part κs a o o' p q i =
    let e = plain p q in (
      record { got = (e i).got; taken = (e i).taken; heard = heard_apart o.0.heard o'.0.heard _ _ (λ j. (e j).told) i },
      ((e i).bytes, (tt, (tt, tt))),
    )

pub hear_in : Determined desk_replies_contracts.hear_in.ended desk_replies.hear_in.Reads.Post
hear_in κs a o o' p q i =
    let e = plain p q in (
      record { got = (e i).got; taken = (e i).taken; heard = heard_apart o.0.heard o'.0.heard _ _ (λ j. (e j).told) i },
      ((e i).bytes, (tt, (tt, tt))),
    )

pub hear : Determined desk_replies_contracts.hear.ended desk_replies.hear.Reads.Post
hear κs a o o' p q i =
    let e = plain p q in (
      record {
        frame = record { bytes = (e i).bytes; got = (e i).got };
        taken = (e i).taken;
        heard = heard_apart o.0.heard o'.0.heard _ _ (λ j. (e j).told) i;
      },
      (tt, (tt, tt)),
    )

pub tinyboot_request_info : Determined c_desk_contracts.tinyboot_request_info.ended c_desk.tinyboot_request_info.Reads.Post
tinyboot_request_info κs a o o' p q i =
    let e = plain p q in
    ((e i).result, ((e i).room, tt))

pub tinyboot_request_erase : Determined c_desk_contracts.tinyboot_request_erase.ended c_desk.tinyboot_request_erase.Reads.Post
tinyboot_request_erase κs a o o' p q i =
    let e = plain p q in
    ((e i).result, (tt, (tt, ((e i).room, tt))))

pub tinyboot_request_write : Determined c_desk_contracts.tinyboot_request_write.ended c_desk.tinyboot_request_write.Reads.Post
tinyboot_request_write κs a o o' p q i =
    let e = plain p q in
    ((e i).result, (tt, (tt, (tt, ((e i).room, tt)))))

pub tinyboot_request_verify : Determined c_desk_contracts.tinyboot_request_verify.ended c_desk.tinyboot_request_verify.Reads.Post
tinyboot_request_verify κs a o o' p q i =
    let e = plain p q in
    ((e i).result, (tt, ((e i).room, tt)))

pub tinyboot_request_reset : Determined c_desk_contracts.tinyboot_request_reset.ended c_desk.tinyboot_request_reset.Reads.Post
tinyboot_request_reset κs a o o' p q i =
    let e = plain p q in
    ((e i).result, (tt, (tt, ((e i).room, tt))))

pub tinyboot_request_select : Determined c_desk_contracts.tinyboot_request_select.ended c_desk.tinyboot_request_select.Reads.Post
tinyboot_request_select κs a o o' p q i =
    let e = plain p q in
    ((e i).result, (tt, (tt, (tt, ((e i).room, tt)))))

pub tinyboot_hear : Determined c_desk_contracts.tinyboot_hear.ended c_desk.tinyboot_hear.Reads.Post
tinyboot_hear κs a o o' p q i =
    let e = plain p q in
    ((e i).result, ((e i).frame, (tt, (tt, ((e i).heard, tt)))))
