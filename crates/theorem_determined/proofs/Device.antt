-- The device's functions and calls.
use Rattle.theorem_determined.specs.Determined.{Determined}
use Rattle.theorem_determined.proofs.Apart.{plain, refused_apart, outcome_apart, answer_apart, outlook_apart, mended_apart}
use Rattle.wire_numbers.proofs.Apart.{status_apart, mode_apart}
use Rattle.device_state.proofs as device_state
use Rattle.device_state.specs.contracts as device_state_contracts
use Rattle.device_boot.proofs as device_boot
use Rattle.device_boot.specs.contracts as device_boot_contracts
use Rattle.device_start.proofs as device_start
use Rattle.device_start.specs.contracts as device_start_contracts
use Rattle.device_early.proofs as device_early
use Rattle.device_early.specs.contracts as device_early_contracts
use Rattle.device_mend.proofs as device_mend
use Rattle.device_mend.specs.contracts as device_mend_contracts
use Rattle.device_handler.proofs as device_handler
use Rattle.device_handler.specs.contracts as device_handler_contracts
use Rattle.device_turns.proofs as device_turns
use Rattle.device_turns.specs.contracts as device_turns_contracts
use Rattle.device_replies.proofs as device_replies
use Rattle.device_replies.specs.contracts as device_replies_contracts
use Rattle.device_dispatcher.proofs as device_dispatcher
use Rattle.device_dispatcher.specs.contracts as device_dispatcher_contracts
use Rattle.device_feed.proofs as device_feed
use Rattle.device_feed.specs.contracts as device_feed_contracts
use Rattle.device_in_place.proofs as device_in_place
use Rattle.device_in_place.specs.contracts as device_in_place_contracts

pub refusal_number : Determined device_state_contracts.refusal.refusal_number.ended device_state.refusal.refusal_number.Reads.Post
refusal_number κs a o o' p q i = (plain p q i, o.1)

pub fits : Determined device_state_contracts.refusal.fits.ended device_state.refusal.fits.Reads.Post
fits κs a o o' p q i = (plain p q i, o.1)

pub set_up : Determined device_state_contracts.refusal.set_up.ended device_state.refusal.set_up.Reads.Post
set_up κs a o o' p q i = (plain p q i, o.1)

pub run_fits : Determined device_state_contracts.refusal.run_fits.ended device_state.refusal.run_fits.Reads.Post
run_fits κs a o o' p q i = (plain p q i, o.1)

pub well_formed : Determined device_state_contracts.refusal.well_formed.ended device_state.refusal.well_formed.Reads.Post
well_formed κs a o o' p q i = (plain p q i, o.1)

pub of_lengths : Determined device_state_contracts.refusal.of_lengths.ended device_state.refusal.of_lengths.Reads.Post
of_lengths κs a o o' p q i = (outcome_apart o.0 o'.0 (plain p q) i, o.1)

pub refuses : Determined device_state_contracts.refusal.refuses.ended device_state.refusal.refuses.Reads.Post
refuses κs a o o' p q i = (outcome_apart o.0 o'.0 (plain p q) i, o.1)

pub check_boot_state : Determined device_boot_contracts.boot_core.check_boot_state.ended device_boot.boot_core.check_boot_state.Reads.Post
check_boot_state κs a o o' p q i =
    let e = plain p q in
    (mode_apart o.0 o'.0 (λ j. (e j).mode) i, (tt, (tt, (tt, (tt, ((e i).meta, tt))))))

pub new_state : Determined device_start_contracts.new_state.ended device_start.new_state.Reads.Post
new_state κs a o o' p q i = (plain p q i, o.1)

pub start : Determined device_start_contracts.start.ended device_start.start.Reads.Post
start κs a o o' p q i =
    let e = plain p q in (
      record {
        state = (e i).state;
        refusal = refused_apart o.0.refusal o'.0.refusal (λ j. (e j).answer) i;
        mode = mode_apart o.0.mode o'.0.mode (λ j. (e j).mode) i;
      },
      (tt, (tt, (tt, ((e i).meta, tt)))),
    )

pub outlook_number : Determined device_early_contracts.outlook_number.ended device_early.outlook_number.Reads.Post
outlook_number κs a o o' p q i = (plain p q i, o.1)

pub is_sizeless : Determined device_early_contracts.is_sizeless.ended device_early.is_sizeless.Reads.Post
is_sizeless κs a o o' p q i = (plain p q i, o.1)

pub early : Determined device_early_contracts.early.ended device_early.early.Reads.Post
early κs a o o' p q i = (outlook_apart o.0 o'.0 (plain p q) i, o.1)

pub mend_number : Determined device_mend_contracts.mend_number.ended device_mend.mend_number.Reads.Post
mend_number κs a o o' p q i = (plain p q i, o.1)

pub mend : Determined device_mend_contracts.mend.ended device_mend.mend.Reads.Post
mend κs a o o' p q i =
    let e = plain p q in
    (mended_apart o.0 o'.0 (λ j. (e j).refusal) (λ j. (e j).count) i, (tt, ((e i).meta, ((e i).list, tt))))

pub is_ok : Determined device_handler_contracts.is_ok.ended device_handler.is_ok.Reads.Post
is_ok κs a o o' p q i = (plain p q i, o.1)

pub bare : Determined device_handler_contracts.bare.ended device_handler.bare.Reads.Post
bare κs a o o' p q i = (plain p q i, o.1)

pub loaded : Determined device_handler_contracts.loaded.ended device_handler.loaded.Reads.Post
loaded κs a o o' p q i = (plain p q i, o.1)

pub handle : Determined device_handler_contracts.handle.ended device_handler.handle.Reads.Post
handle κs a o o' p q i =
    let e = plain p q in (
      record {
        status = status_apart o.0.status o'.0.status (λ j. (e j).status) i;
        len = (e i).len;
        restart = (e i).restart;
      },
      (tt, ((e i).left.state, ((e i).left.flash, ((e i).left.meta, tt)))),
    )

pub why_number : Determined device_turns_contracts.why_number.ended device_turns.why_number.Reads.Post
why_number κs a o o' p q i = (plain p q i, o.1)

pub decide : Determined device_turns_contracts.decide.ended device_turns.decide.Reads.Post
decide κs a o o' p q i = let e = plain p q in ((e i).turn, (tt, (tt, (tt, ((e i).bytes, (tt, tt))))))

pub mode_number : Determined device_replies_contracts.mode_number.ended device_replies.mode_number.Reads.Post
mode_number κs a o o' p q i = (plain p q i, o.1)

pub unsaid : Determined device_replies_contracts.unsaid.ended device_replies.unsaid.Reads.Post
unsaid κs a o o' p q i =
    let e = plain p q in
    (record { number = (e i).number; mode = (e i).mode; len = (e i).len; wait = (e i).wait; why = (e i).why }, o.1)

pub numbers_of : Determined device_replies_contracts.numbers_of.ended device_replies.numbers_of.Reads.Post
numbers_of κs a o o' p q i =
    let e = plain p q in
    (record { number = (e i).number; mode = (e i).mode; len = (e i).len; wait = (e i).wait; why = (e i).why }, o.1)

pub reply : Determined device_replies_contracts.reply.ended device_replies.reply.Reads.Post
reply κs a o o' p q i =
    let e = plain p q in
    (answer_apart o.0 o'.0 (λ j. (e j).told) i, (tt, (tt, (tt, (tt, ((e i).bytes, ((e i).room, tt)))))))

pub is_good : Determined device_dispatcher_contracts.is_good.ended device_dispatcher.is_good.Reads.Post
is_good κs a o o' p q i = (plain p q i, o.1)

pub status_of : Determined device_dispatcher_contracts.status_of.ended device_dispatcher.status_of.Reads.Post
status_of κs a o o' p q i = (status_apart o.0 o'.0 (plain p q) i, o.1)

pub id_len : Determined device_dispatcher_contracts.id_len.ended device_dispatcher.id_len.Reads.Post
id_len κs a o o' p q i = (plain p q i, o.1)

pub dispatch : Determined device_dispatcher_contracts.dispatch.ended device_dispatcher.dispatch.Reads.Post
dispatch κs a o o' p q i =
    let e = plain p q in
    (answer_apart o.0 o'.0 (λ j. (e j).told) i, (tt, (tt, ((e i).left.state, ((e i).left.flash, ((e i).left.meta, ((e i).room, tt)))))))

pub kind_of : Determined device_feed_contracts.kind_of.ended device_feed.kind_of.Reads.Post
kind_of κs a o o' p q i = (plain p q i, o.1)

pub feed_in : Determined device_feed_contracts.feed_in.ended device_feed.feed_in.Reads.Post
feed_in κs a o o' p q i =
    let e = plain p q in (
      record { taken = (e i).taken; answer = answer_apart o.0.answer o'.0.answer (λ j. (e j).told) i },
      (tt, ((e i).left.state, (tt, ((e i).left.flash, ((e i).left.meta, ((e i).room, tt)))))),
    )

pub feed : Determined device_feed_contracts.feed.ended device_feed.feed.Reads.Post
feed κs a o o' p q i =
    let e = plain p q in (
      record { state = (e i).left.state; taken = (e i).taken; answer = answer_apart o.0.answer o'.0.answer (λ j. (e j).told) i },
      (tt, (tt, (tt, ((e i).left.flash, ((e i).left.meta, ((e i).room, tt)))))),
    )

pub feed_on : Determined device_in_place_contracts.feed_on.ended device_in_place.feed_on.Reads.Post
feed_on κs a o o' p q i =
    let e = plain p q in (
      record { taken = (e i).taken; answer = answer_apart o.0.answer o'.0.answer (λ j. (e j).told) i },
      (tt, ((e i).numbers, ((e i).bytes, (tt, ((e i).flash, ((e i).meta, ((e i).room, tt))))))),
    )

pub byte_on : Determined device_in_place_contracts.byte_on.ended device_in_place.byte_on.Reads.Post
byte_on κs a o o' p q i =
    let e = plain p q in
    ((e i).done, (tt, (tt, (tt, (tt, (tt, ((e i).bytes, (tt, (tt, (tt, (tt, tt)))))))))))
