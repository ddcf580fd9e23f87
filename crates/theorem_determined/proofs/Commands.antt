-- The commands.
use Rattle.theorem_determined.specs.Determined.{Determined}
use Rattle.theorem_determined.proofs.Apart.{plain}
use Rattle.wire_numbers.proofs.Apart.{status_apart}
use Rattle.cmd_select.proofs.Selecting.{one_result}
use Rattle.cmd_info.proofs as cmd_info
use Rattle.cmd_info.specs.contracts as cmd_info_contracts
use Rattle.cmd_erase.proofs as cmd_erase
use Rattle.cmd_erase.specs.contracts as cmd_erase_contracts
use Rattle.cmd_write.proofs as cmd_write
use Rattle.cmd_write.specs.contracts as cmd_write_contracts
use Rattle.cmd_verify.proofs as cmd_verify
use Rattle.cmd_verify.specs.contracts as cmd_verify_contracts
use Rattle.cmd_reset.proofs as cmd_reset
use Rattle.cmd_reset.specs.contracts as cmd_reset_contracts
use Rattle.cmd_select.proofs as cmd_select
use Rattle.cmd_select.specs.contracts as cmd_select_contracts

pub tell : Determined cmd_info_contracts.tell.ended cmd_info.tell.Reads.Post
tell κs a o o' p q i = (tt, (tt, (tt, (tt, (tt, (tt, (tt, (tt, (plain p q i, (tt, tt))))))))))

pub cmd_info_lem : Determined cmd_info_contracts.cmd_info.ended cmd_info.cmd_info.Reads.Post
cmd_info_lem κs a o o' p q i = (tt, (tt, (tt, (tt, (tt, (plain p q i, (tt, (tt, tt))))))))

pub cmd_erase_lem : Determined cmd_erase_contracts.cmd_erase.ended cmd_erase.cmd_erase.Reads.Post
cmd_erase_lem κs a o o' p q i =
    let e = plain p q in
    (status_apart o.0 o'.0 (λ j. (e j).status) i, (tt, (tt, (tt, ((e i).flash, ((e i).meta, tt))))))

pub cmd_write_lem : Determined cmd_write_contracts.cmd_write.ended cmd_write.cmd_write.Reads.Post
cmd_write_lem κs a o o' p q i =
    let e = plain p q in (
      record { status = status_apart o.0.status o'.0.status (λ j. (e j).status) i; fill = (e i).fill; next = (e i).next },
      (tt, (tt, ((e i).page, (tt, (tt, ((e i).flash, (tt, tt))))))),
    )

pub cmd_verify_lem : Determined cmd_verify_contracts.cmd_verify.ended cmd_verify.cmd_verify.Reads.Post
cmd_verify_lem κs a o o' p q i =
    let e = plain p q in
    (record { status = status_apart o.0.status o'.0.status (λ j. (e j).status) i; crc = (e i).crc }, (tt, (tt, (tt, (tt, ((e i).meta, tt))))))

pub cmd_reset_lem : Determined cmd_reset_contracts.cmd_reset.ended cmd_reset.cmd_reset.Reads.Post
cmd_reset_lem κs a o o' p q i =
    let e = plain p q in
    (status_apart o.0 o'.0 (λ j. (e j).status) i, (tt, (tt, ((e i).meta, tt))))

pub select : Determined cmd_select_contracts.select.ended cmd_select.select.Reads.Post
select κs a o o' p q i =
    let e = one_result o.0 o'.0 o.1.1.1.0 o'.1.1.1.0 (plain p q) in
    (e.0 i, (tt, (tt, (e.1 i, tt))))
