use Rattle.std.proofs.Common.{ℕ, ◌<◌, ◌∙◌, sym, ap, subst}
use Rattle.atomic_table.specs.Seated.{TableId}
use Rattle.atomic_table.specs.Table.{Splits}
use Rattle.pol_board.specs.Holders.{Holder}
use Rattle.pol_board.specs.Rules.{KeepsRule}
use Rattle.pol_board.proofs.Moves.{splits}
use Rattle.pol_board.proofs.publisher.Publisher.reader.Goals as goal

pub split_seat-requires : goal.split_seat-requires
split_seat-requires c =
    let seat = c.self.inside.seat in
    let Cut : ℕ → Type 0 = λ number. Splits {S = ℕ} KeepsRule number seat.me.0 seat.me.0 seat.me.0 in
    let Some_words : TableId → Type 0 = λ board. 0 < board.words in (
      ap (λ (holder : Holder). holder.board) c.self.view_is ∙ c.requires.board ∙ sym c.board.view_is,
      subst Some_words (sym c.board.view_is) c.requires.words,
      subst Cut (sym c.self.invariant.0) (λ board kept there. splits board.words board.views seat.me.0 kept there),
    )
