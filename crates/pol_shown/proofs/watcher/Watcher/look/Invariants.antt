use Rattle.std.proofs.Common.{◌≡◌}
use Rattle.pol_board.specs.Words.{AreOlder}
use Rattle.pol_shown.proofs.watcher.Watcher.look.Given as goal

abbrev pub invariant-loop-word : goal.invariant-loop-word
invariant-loop-word l =
    (l.self-inside.reader.board ≡ l.self-inside.board.value)
    × (l.self-inside.words ≡ l.self-inside.board.value.words)
    × (l.word-end ≡ l.self-inside.board.value.words)
    × (l.self-inside.reader.board ≡ l.fn.self.board)
    × AreOlder l.fn.self.words l.self-inside.reader.words
