-- The command's bit decides.
use Rattle.std.proofs.Common.{sym}
use Rattle.mtp_machine.proofs.Bits.{target_where_bit, none_without_bit}
use Rattle.mtp_machine.proofs.edges.by_command.Goals as goal

pub returns-then-enabled_from-code-ne0 : goal.returns-then-enabled_from-code-ne0
returns-then-enabled_from-code-ne0 c =
    rw (c.goal.ensures) (sym
    (target_where_bit _ _ (rw (← c.enabled_from.ensures, ← c.code.ensures.number) c.if-enabled_from-code-ne0.true)))

pub returns-else-enabled_from-code-ne0 : goal.returns-else-enabled_from-code-ne0
returns-else-enabled_from-code-ne0 c = sym (none_without_bit _ _
    (rw (← c.enabled_from.ensures, ← c.code.ensures.number) c.if-enabled_from-code-ne0.false))
