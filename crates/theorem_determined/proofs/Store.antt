-- The functions of flash and record.
use Rattle.theorem_determined.specs.Determined.{Determined, DeterminedBehind}
use Rattle.theorem_determined.proofs.Apart.{plain, state_apart}
use Rattle.store_flash.proofs.Answers.{stored_injective}
use Rattle.store_flash.proofs as store_flash
use Rattle.store_flash.specs.contracts as store_flash_contracts
use Rattle.wire_rates.proofs.Apart.{rate_apart}
use Rattle.store_record.proofs as store_record
use Rattle.store_record.specs.contracts as store_record_contracts
use Rattle.store_rate.proofs as store_rate
use Rattle.store_rate.specs.contracts as store_rate_contracts

pub byte_at : Determined store_flash_contracts.cells.byte_at.ended store_flash.cells.byte_at.Reads.Post
byte_at κs a o o' p q i = (plain p q i, o.1)

pub four_at : Determined store_flash_contracts.cells.four_at.ended store_flash.cells.four_at.Reads.Post
four_at κs a o o' p q i = (plain p q i, o.1)

-- it answers a reference
pub first : DeterminedBehind store_flash_contracts.cells.first.ended (λ κs r. r.now) store_flash.cells.first.Reads.Post
first κs a o o' p q i = (plain p q i, o.1)

pub put : Determined store_flash_contracts.cells.put.ended store_flash.cells.put.Reads.Post
put κs a o o' p q i = (tt, (plain p q i, (tt, (tt, tt))))

pub lay : Determined store_flash_contracts.cells.lay.ended store_flash.cells.lay.Reads.Post
lay κs a o o' p q i = (tt, (plain p q i, (tt, tt)))

pub write : Determined store_flash_contracts.storage.write.ended store_flash.storage.write.Reads.Post
write κs a o o' p q i =
    let e = plain p q in
    (stored_injective o.0 o'.0 (λ j. (e j).answer) i, ((e i).cells, (tt, (tt, tt))))

pub write-part : Determined store_flash_contracts.storage.write_part.ended store_flash.storage.write_part.Reads.Post
write-part κs a o o' p q i =
    let e = plain p q in
    (stored_injective o.0 o'.0 (λ j. (e j).answer) i, ((e i).cells, (tt, (tt, (tt, tt)))))

pub erase : Determined store_flash_contracts.storage.erase.ended store_flash.storage.erase.Reads.Post
erase κs a o o' p q i =
    let e = plain p q in
    (stored_injective o.0 o'.0 (λ j. (e j).answer) i, ((e i).cells, (tt, (tt, tt))))

pub boot_state : Determined store_record_contracts.boot_meta_store.boot_state.ended store_record.boot_meta_store.boot_state.Reads.Post
boot_state κs a o o' p q i = (state_apart o.0 o'.0 (plain p q) i, o.1)

pub is_updating : Determined store_record_contracts.boot_meta_store.is_updating.ended store_record.boot_meta_store.is_updating.Reads.Post
is_updating κs a o o' p q i = (plain p q i, o.1)

pub has_trials : Determined store_record_contracts.boot_meta_store.has_trials.ended store_record.boot_meta_store.has_trials.Reads.Post
has_trials κs a o o' p q i = (plain p q i, o.1)

pub app_checksum : Determined store_record_contracts.boot_meta_store.app_checksum.ended store_record.boot_meta_store.app_checksum.Reads.Post
app_checksum κs a o o' p q i = (plain p q i, o.1)

pub app_size : Determined store_record_contracts.boot_meta_store.app_size.ended store_record.boot_meta_store.app_size.Reads.Post
app_size κs a o o' p q i = (plain p q i, o.1)

pub baud : Determined store_record_contracts.boot_meta_store.baud.ended store_record.boot_meta_store.baud.Reads.Post
baud κs a o o' p q i = (plain p q i, o.1)

pub position : Determined store_record_contracts.boot_meta_store.position.ended store_record.boot_meta_store.position.Reads.Post
position κs a o o' p q i = (plain p q i, o.1)

pub rewrite_steps : Determined store_record_contracts.rewrite.rewrite_steps.ended store_record.rewrite.rewrite_steps.Reads.Post
rewrite_steps κs a o o' p q i = (tt, (plain p q i, (tt, (tt, tt))))

pub set_row : Determined store_record_contracts.boot_meta_store.set_row.ended store_record.boot_meta_store.set_row.Reads.Post
set_row κs a o o' p q i = (tt, (plain p q i, (tt, (tt, tt))))

pub advance : Determined store_record_contracts.boot_meta_store.advance.ended store_record.boot_meta_store.advance.Reads.Post
advance κs a o o' p q i = (tt, (plain p q i, tt))

pub consume_trial : Determined store_record_contracts.boot_meta_store.consume_trial.ended store_record.boot_meta_store.consume_trial.Reads.Post
consume_trial κs a o o' p q i = (tt, (plain p q i, tt))

pub refresh : Determined store_record_contracts.boot_meta_store.refresh.ended store_record.boot_meta_store.refresh.Reads.Post
refresh κs a o o' p q i = (tt, (plain p q i, (tt, (tt, (tt, tt)))))

pub starts_left : Determined store_record_contracts.boot_meta_store.starts_left.ended store_record.boot_meta_store.starts_left.Reads.Post
starts_left κs a o o' p q i = (plain p q i, o.1)

pub from_u8 : Determined store_record_contracts.traits.BootState.from_u8.ended store_record.traits.BootState.from_u8.Reads.Post
from_u8 κs a o o' p q i = (state_apart o.0 o'.0 (plain p q) i, o.1)

pub to_u8 : Determined store_record_contracts.traits.BootState.to_u8.ended store_record.traits.BootState.to_u8.Reads.Post
to_u8 κs a o o' p q i = (plain p q i, o.1)

pub app_present : Determined store_record_contracts.traits.app_present.ended store_record.traits.app_present.Reads.Post
app_present κs a o o' p q i = (plain p q i, o.1)

pub rate_baud : Determined store_rate_contracts.baud.ended store_rate.baud.Reads.Post
rate_baud κs a o o' p q i = (rate_apart o.0 o'.0 (plain p q) i, o.1)
