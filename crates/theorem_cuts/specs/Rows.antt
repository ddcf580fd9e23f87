-- Three rewrites, cut after 0 to 4 steps: what the present start decides and what the careful one does, asked for a hand-off (0 hand-off, 1 Service). The
-- present start fails at 1, where the record is all ones: in the first two rows it hands off to an image that neither the old record nor the new one lets
-- start.
use Rattle.std.specs.Prelude.{ℕ, Bool, true, false, List, [], ◌∷◌, replicate}
use Rattle.store_record.specs.Cuts.{cut_after}
use Rattle.store_record.specs.Record.{fresh_of, row_of}
use Rattle.device_boot.specs.Start.{start_of}

-- 128 cells with the text 123456789, whose CRC is 0x29B1; a record of Updating, and one of Validating, of nine bytes, whose trials are used up
abbrev pub image : List ℕ
image = 0x31 ∷ 0x32 ∷ 0x33 ∷ 0x34 ∷ 0x35 ∷ 0x36 ∷ 0x37 ∷ 0x38 ∷ 0x39 ∷ replicate {A = ℕ} 119 0xFF

abbrev pub updated : List ℕ
updated = 0x7F ∷ replicate {A = ℕ} 11 0xFF

abbrev pub used_up : List ℕ
used_up = 0x3F ∷ 0 ∷ 0xB1 ∷ 0x29 ∷ 9 ∷ 0 ∷ 0 ∷ 0 ∷ 5 ∷ 0xFF ∷ 0xFF ∷ 0xFF ∷ []

-- old and new record, and the decisions after 0, 1, 2, 3 and 4 steps
pub record Row : Type 0 where
  pub old : List ℕ
  pub new : List ℕ
  pub present : List ℕ
  pub careful : List ℕ

abbrev pub decided_at : Bool → Row → ℕ → ℕ
decided_at careful r n = (start_of careful 128 0 image (cut_after n r.new r.old)).mode

abbrev pub five : Bool → Row → List ℕ
five careful r =
    decided_at careful r 0 ∷ decided_at careful r 1 ∷ decided_at careful r 2 ∷ decided_at careful r 3 ∷ decided_at careful r 4 ∷ []

-- an Erase from Validating; a Reset to Service with another baud, while Updating; a Verify of nine bytes
abbrev pub rows : List Row
rows =
    record { old = used_up; new = fresh_of used_up 0xFFFF 0x7F 0xFFFFFFFF; present = 1 ∷ 0 ∷ 1 ∷ 1 ∷ 1 ∷ []; careful = 1 ∷ 1 ∷ 1 ∷ 1 ∷ 1 ∷ [] } ∷
    record { old = updated; new = row_of updated 5 0xFF; present = 1 ∷ 0 ∷ 1 ∷ 1 ∷ 1 ∷ []; careful = 1 ∷ 1 ∷ 1 ∷ 1 ∷ 1 ∷ [] } ∷
    record { old = updated; new = fresh_of updated 0x29B1 0x3F 9; present = 1 ∷ 0 ∷ 1 ∷ 0 ∷ 0 ∷ []; careful = 1 ∷ 1 ∷ 1 ∷ 0 ∷ 0 ∷ [] } ∷
    []

abbrev pub given : List Row → List (List ℕ)
given [] = []
given (r ∷ l) = five false r ∷ five true r ∷ given l

abbrev pub expected : List Row → List (List ℕ)
expected [] = []
expected (r ∷ l) = r.present ∷ r.careful ∷ expected l
