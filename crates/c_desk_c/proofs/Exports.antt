-- That the exports leave no choice: of each the line of theorem_determined on the library's function, whose contract is the same.
use Rattle.theorem_determined.specs.Determined.{Determined}
use Rattle.theorem_determined.proofs.Desk as Desk
use Rattle.theorem_determined.proofs.Captures as Captures
use Rattle.c_desk_c.proofs as c_desk_c
use Rattle.c_desk_c.specs.contracts as c_desk_c_contracts

pub tinyboot_request_info : Determined c_desk_c_contracts.tinyboot_request_info.ended c_desk_c.tinyboot_request_info.Reads.Post
tinyboot_request_info = Desk.tinyboot_request_info

pub tinyboot_request_erase : Determined c_desk_c_contracts.tinyboot_request_erase.ended c_desk_c.tinyboot_request_erase.Reads.Post
tinyboot_request_erase = Desk.tinyboot_request_erase

pub tinyboot_request_write : Determined c_desk_c_contracts.tinyboot_request_write.ended c_desk_c.tinyboot_request_write.Reads.Post
tinyboot_request_write = Desk.tinyboot_request_write

pub tinyboot_request_verify : Determined c_desk_c_contracts.tinyboot_request_verify.ended c_desk_c.tinyboot_request_verify.Reads.Post
tinyboot_request_verify = Desk.tinyboot_request_verify

pub tinyboot_request_reset : Determined c_desk_c_contracts.tinyboot_request_reset.ended c_desk_c.tinyboot_request_reset.Reads.Post
tinyboot_request_reset = Desk.tinyboot_request_reset

pub tinyboot_request_select : Determined c_desk_c_contracts.tinyboot_request_select.ended c_desk_c.tinyboot_request_select.Reads.Post
tinyboot_request_select = Desk.tinyboot_request_select

pub tinyboot_hear : Determined c_desk_c_contracts.tinyboot_hear.ended c_desk_c.tinyboot_hear.Reads.Post
tinyboot_hear = Desk.tinyboot_hear

pub tinyboot_capture_next : Determined c_desk_c_contracts.tinyboot_capture_next.ended c_desk_c.tinyboot_capture_next.Reads.Post
tinyboot_capture_next = Captures.tinyboot_capture_next

pub tinyboot_capture_compare : Determined c_desk_c_contracts.tinyboot_capture_compare.ended c_desk_c.tinyboot_capture_compare.Reads.Post
tinyboot_capture_compare = Captures.tinyboot_capture_compare
