-- The tokens so far and those of the nodes that are left are all.
use Rattle.std.proofs.Common.{◌≡◌, ◌++◌, drop}
use Rattle.pol_record.specs.Objects.{data_tokens}
use Rattle.pol_overview.specs.Lists.{each_data}
use Rattle.pol_overview.specs.Steps.{waiting_data}
use Rattle.pol_overview.proofs.Places.{rest_tokens}
use Rattle.pol_overview.proofs.steps.write_waiting.Given as goal

abbrev pub invariant-loop-node : goal.invariant-loop-node
invariant-loop-node l = record {
  tokens : l.writer.tokens ++ rest_tokens waiting_data (drop l.node-index l.nodes)
      ≡ l.fn.writer.tokens ++ data_tokens (each_data waiting_data l.nodes);
  before : l.writer.before ≡ l.fn.writer.before;
}
