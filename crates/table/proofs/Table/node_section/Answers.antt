use Rattle.table.proofs.Results.{goes_out}
use Rattle.table.proofs.SectionLaws.{passes, each_none, each_goes, count_stops, record_stops, all_pass}
use Rattle.rules.specs.Reading.{node_section}
use native.Mathlib.Omega.{arith}
use mathlib.Core.Path.{◌≡◌}
use Prim.Native.Nat.{◌<◌}
use Rattle.table.proofs.Table.node_section.Goals as goal

pub returns-in_err-check_count : goal.returns-in_err-check_count
unfolding node_section
returns-in_err-check_count c =
    rw (goes_out _ _ c.from_residual.ensures.1) (count_stops _ _ _ _ c.in_err-check_count.ensures)

pub loop-n-init : goal.loop-n-init
loop-n-init c = each_none _

pub returns-in_err-check_node : goal.returns-in_err-check_node
unfolding node_section
returns-in_err-check_node c =
    let h : c.loop-n.n < c.args.self.now.nodes = omega arith in
    rw (goes_out _ _ c.from_residual-in_err-check_node.ensures.1)
    (record_stops _ _ _ _ _ _ c.in_ok-check_count.ensures h c.loop-n.invariant c.in_err-check_node.ensures)

pub loop-n-preserved : goal.loop-n-preserved
loop-n-preserved c = each_goes _ _ c.loop-n.invariant (passes _ _ c.in_ok-check_node.ensures)

pub returns : goal.returns
unfolding node_section
returns c =
    let z : c.loop-n.n ≡ c.args.self.now.nodes = omega arith in
    all_pass _ _ _ _ _ c.in_ok-check_count.ensures (rw z at c.loop-n.invariant)
