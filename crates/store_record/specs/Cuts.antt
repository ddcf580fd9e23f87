-- A rewrite of the record, step by step (02, E4): an erase to twelve 0xFF, then three 4-byte words in order. A cut may come before or after each.
use Rattle.std.specs.Prelude.{ℕ, zero, suc, ◌*◌, List, length, take, replicate, eqb, if◌then◌else◌}
use Rattle.laws.specs.Over.{over}

-- the record erased
abbrev pub blank : List ℕ
blank = replicate {A = ℕ} 12 0xFF

-- the record `old` after so many steps of its rewrite to `new`: 0 none yet, 1 the erase, 2 to 4 a word of `new` more each; more steps than 4 are as 4. What has
-- not twelve bytes is no record, and stays as it is.
abbrev pub cut_after : ℕ → List ℕ → List ℕ → List ℕ
cut_after zero new old = old
cut_after (suc words) new old = if eqb (length old) 12 then over (take (4 * words) new) blank else old
