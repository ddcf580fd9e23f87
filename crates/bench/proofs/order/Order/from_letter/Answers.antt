-- The last arm's letter is none of the others'.
use borrow.Author.Tests.{ne_eqb}
use Rattle.bench.specs.Limits.{carried}
use Rattle.bench.proofs.order.Order.from_letter.Goals as goal

pub returns-in_default : goal.returns-in_default
unfolding carried
returns-in_default c n =
    let letter = c.args.letter in
    let rest = c.in_default.in_default-own.rest in
    simp (
      ne_eqb letter 115 rest.0.0.0.0.0.0.0.0.0.0.0.0.0.0.0.0.0.0.0.0.0.0.1,
      ne_eqb letter 110 rest.0.0.0.0.0.0.0.0.0.0.0.0.0.0.0.0.0.0.0.0.0.1,
      ne_eqb letter 99 rest.0.0.0.0.0.0.0.0.0.0.0.0.0.0.0.0.0.0.0.0.1,
      ne_eqb letter 109 rest.0.0.0.0.0.0.0.0.0.0.0.0.0.0.0.0.0.0.0.1,
      ne_eqb letter 102 rest.0.0.0.0.0.0.0.0.0.0.0.0.0.0.0.0.0.0.1,
      ne_eqb letter 114 rest.0.0.0.0.0.0.0.0.0.0.0.0.0.0.0.0.0.1,
      ne_eqb letter 112 rest.0.0.0.0.0.0.0.0.0.0.0.0.0.0.0.0.1,
      ne_eqb letter 113 rest.0.0.0.0.0.0.0.0.0.0.0.0.0.0.0.1,
      ne_eqb letter 98 rest.0.0.0.0.0.0.0.0.0.0.0.0.0.0.1,
      ne_eqb letter 120 rest.0.0.0.0.0.0.0.0.0.0.0.0.0.1,
      ne_eqb letter 111 rest.0.0.0.0.0.0.0.0.0.0.0.0.1,
      ne_eqb letter 100 rest.0.0.0.0.0.0.0.0.0.0.0.1,
      ne_eqb letter 116 rest.0.0.0.0.0.0.0.0.0.0.1,
      ne_eqb letter 106 rest.0.0.0.0.0.0.0.0.0.1,
      ne_eqb letter 101 rest.0.0.0.0.0.0.0.0.1,
      ne_eqb letter 97 rest.0.0.0.0.0.0.0.1,
      ne_eqb letter 107 rest.0.0.0.0.0.0.1,
      ne_eqb letter 103 rest.0.0.0.0.0.1,
      ne_eqb letter 121 rest.0.0.0.0.1,
      ne_eqb letter 118 rest.0.0.0.1,
      ne_eqb letter 119 rest.0.0.1,
      ne_eqb letter 104 rest.0.1,
      ne_eqb letter 117 rest.1,
    )
