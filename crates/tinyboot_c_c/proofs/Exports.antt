-- That the exports leave no choice: of each the line of theorem_determined on the library's function, whose contract is the same.
use Rattle.theorem_determined.specs.Determined.{Determined}
use Rattle.theorem_determined.proofs.C as C
use Rattle.tinyboot_c_c.proofs as tinyboot_c_c
use Rattle.tinyboot_c_c.specs.contracts as tinyboot_c_c_contracts

pub tinyboot_state_size : Determined tinyboot_c_c_contracts.tinyboot_state_size.ended tinyboot_c_c.tinyboot_state_size.Reads.Post
tinyboot_state_size = C.tinyboot_state_size

pub tinyboot_crc16 : Determined tinyboot_c_c_contracts.tinyboot_crc16.ended tinyboot_c_c.tinyboot_crc16.Reads.Post
tinyboot_crc16 = C.tinyboot_crc16

pub tinyboot_key : Determined tinyboot_c_c_contracts.tinyboot_key.ended tinyboot_c_c.tinyboot_key.Reads.Post
tinyboot_key = C.tinyboot_key

pub tinyboot_new_state : Determined tinyboot_c_c_contracts.tinyboot_new_state.ended tinyboot_c_c.tinyboot_new_state.Reads.Post
tinyboot_new_state = C.tinyboot_new_state

pub tinyboot_feed : Determined tinyboot_c_c_contracts.tinyboot_feed.ended tinyboot_c_c.tinyboot_feed.Reads.Post
tinyboot_feed = C.tinyboot_feed

pub tinyboot_start : Determined tinyboot_c_c_contracts.tinyboot_start.ended tinyboot_c_c.tinyboot_start.Reads.Post
tinyboot_start = C.tinyboot_start

pub tinyboot_early : Determined tinyboot_c_c_contracts.tinyboot_early.ended tinyboot_c_c.tinyboot_early.Reads.Post
tinyboot_early = C.tinyboot_early

pub tinyboot_app_feed : Determined tinyboot_c_c_contracts.tinyboot_app_feed.ended tinyboot_c_c.tinyboot_app_feed.Reads.Post
tinyboot_app_feed = C.tinyboot_app_feed

pub tinyboot_app_new_state : Determined tinyboot_c_c_contracts.tinyboot_app_new_state.ended tinyboot_c_c.tinyboot_app_new_state.Reads.Post
tinyboot_app_new_state = C.tinyboot_app_new_state

pub tinyboot_confirm : Determined tinyboot_c_c_contracts.tinyboot_confirm.ended tinyboot_c_c.tinyboot_confirm.Reads.Post
tinyboot_confirm = C.tinyboot_confirm

pub tinyboot_baud : Determined tinyboot_c_c_contracts.tinyboot_baud.ended tinyboot_c_c.tinyboot_baud.Reads.Post
tinyboot_baud = C.tinyboot_baud

pub tinyboot_set_baud : Determined tinyboot_c_c_contracts.tinyboot_set_baud.ended tinyboot_c_c.tinyboot_set_baud.Reads.Post
tinyboot_set_baud = C.tinyboot_set_baud

pub tinyboot_position : Determined tinyboot_c_c_contracts.tinyboot_position.ended tinyboot_c_c.tinyboot_position.Reads.Post
tinyboot_position = C.tinyboot_position

pub tinyboot_mend : Determined tinyboot_c_c_contracts.tinyboot_mend.ended tinyboot_c_c.tinyboot_mend.Reads.Post
tinyboot_mend = C.tinyboot_mend
