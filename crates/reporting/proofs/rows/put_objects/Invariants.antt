use Rattle.reporting.specs.Report.{objects}
use Rattle.lines.specs.Print.{Put}
use Rattle.reporting.proofs.rows.put_objects.Given as goal

abbrev pub invariant-loop-j : goal.invariant-loop-j
invariant-loop-j l = Put l.initial.out l.out l.at (objects l.s l.img l.j) l.next
