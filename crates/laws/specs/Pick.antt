-- A choice by a test. To be read from the top, a choice is written `if .. then .. else ..`: the first test that holds decides.
use Rattle.std.specs.Prelude.{Bool, cond}

-- the first where the test holds, else the second
abbrev pub pick : {A : Type 0} → Bool → A → A → A
pick = cond
