-- The head is the word, its numbers, and a space.
use Rattle.table.specs.Answers.{shown}
use Rattle.rows.proofs.Written.{next}
use Rattle.lines.specs.Lines.{head_of}
use Rattle.lines.proofs.LineEnds.{race_head_fits, illegal_head_fits}
use Rattle.lines.proofs.Pairs.put_head.Goals as goal
use Rattle.lines.proofs.Pairs.put_head.Goals.{in-Races, in-Illegals}

pub returns : goal.returns
unfolding head_of
returns c =
    let new = c.new-pen.ensures in
    elim c.match-self.branch [
      | in-Races w ↦
          rw w.in-Races.is (race_head_fits (shown c.args.self.now.t) c.args.i (rw (← w.resource_of.ensures.0, ← w.label-label.ensures.0) w.label-label.ensures.1) c.requires.0 (rw (← w.task_of.ensures.0) w.task_of.ensures.1) (rw (← w.resource_of.ensures.0, ← w.label-label.ensures.0, ← w.task_of.ensures.0) (next (rw (new.1, new.2) at w.part.ensures.0.0) (rw w.pen-is at c.put.ensures.0.0))))
      | in-Illegals w ↦
          rw w.in-Illegals.is (illegal_head_fits (shown c.args.self.now.t) c.args.i c.requires.0 (rw (← w.task_of-in-Illegals.ensures.0) w.task_of-in-Illegals.ensures.1) (rw (← w.task_of-in-Illegals.ensures.0) (next (rw (new.1, new.2) at w.part-in-Illegals.ensures.0.0) (rw w.pen-is at c.put.ensures.0.0))))
    ]
