-- The running app's functions and calls.
use Rattle.theorem_determined.specs.Determined.{Determined}
use Rattle.theorem_determined.proofs.Apart.{plain, outcome_apart, answer_apart, stored_apart, rate_read_apart, position_read_apart}
use Rattle.app_record.proofs as app_record
use Rattle.app_record.specs.contracts as app_record_contracts
use Rattle.app_state.proofs as app_state
use Rattle.app_state.specs.contracts as app_state_contracts
use Rattle.app_dispatcher.proofs as app_dispatcher
use Rattle.app_dispatcher.specs.contracts as app_dispatcher_contracts
use Rattle.app_client.proofs as app_client
use Rattle.app_client.specs.contracts as app_client_contracts

pub stored_number : Determined app_record_contracts.stored_number.ended app_record.stored_number.Reads.Post
stored_number κs a o o' p q i = (plain p q i, o.1)

pub confirm : Determined app_record_contracts.confirm.ended app_record.confirm.Reads.Post
confirm κs a o o' p q i = let e = plain p q in (stored_apart o.0 o'.0 (λ j. (e j).number) i, ((e i).meta, tt))

pub store_baud : Determined app_record_contracts.store_baud.ended app_record.store_baud.Reads.Post
store_baud κs a o o' p q i = let e = plain p q in (stored_apart o.0 o'.0 (λ j. (e j).number) i, ((e i).meta, (tt, tt)))

pub set_baud : Determined app_record_contracts.set_baud.ended app_record.set_baud.Reads.Post
set_baud κs a o o' p q i = let e = plain p q in (stored_apart o.0 o'.0 (λ j. (e j).number) i, ((e i).meta, (tt, tt)))

pub baud : Determined app_record_contracts.baud.ended app_record.baud.Reads.Post
baud κs a o o' p q i = (rate_read_apart o.0 o'.0 (plain p q) i, o.1)

pub position : Determined app_record_contracts.position.ended app_record.position.Reads.Post
position κs a o o' p q i = (position_read_apart o.0 o'.0 (plain p q) i, o.1)

pub app_new : Determined app_state_contracts.app_new.ended app_state.app_new.Reads.Post
app_new κs a o o' p q i = (plain p q i, o.1)

pub app_refuses : Determined app_state_contracts.app_refuses.ended app_state.app_refuses.Reads.Post
app_refuses κs a o o' p q i = (outcome_apart o.0 o'.0 (plain p q) i, o.1)

pub app_dispatch : Determined app_dispatcher_contracts.app_dispatch.ended app_dispatcher.app_dispatch.Reads.Post
app_dispatch κs a o o' p q i =
    let e = plain p q in
    (answer_apart o.0 o'.0 (λ j. (e j).told) i, (tt, (tt, ((e i).left.state, ((e i).left.meta, ((e i).room, tt))))))

pub app_feed_in : Determined app_client_contracts.app_feed_in.ended app_client.app_feed_in.Reads.Post
app_feed_in κs a o o' p q i =
    let e = plain p q in (
      record { taken = (e i).taken; answer = answer_apart o.0.answer o'.0.answer (λ j. (e j).told) i },
      (tt, ((e i).left.state, (tt, ((e i).left.meta, ((e i).room, tt))))),
    )

pub app_feed : Determined app_client_contracts.app_feed.ended app_client.app_feed.Reads.Post
app_feed κs a o o' p q i =
    let e = plain p q in (
      record { state = (e i).left.state; taken = (e i).taken; answer = answer_apart o.0.answer o'.0.answer (λ j. (e j).told) i },
      (tt, (tt, (tt, ((e i).left.meta, ((e i).room, tt))))),
    )
