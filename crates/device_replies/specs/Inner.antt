-- The code's numbers of an answer as what is told; an auditor need not read it.
use Rattle.device_replies.specs.declared.Said.{Said}
use Rattle.device_replies.specs.Answers.{Told}

abbrev pub told_by : Said → Told
told_by s = record { number = s.number; len = s.len; wait = s.wait; mode = s.mode; why = s.why }
