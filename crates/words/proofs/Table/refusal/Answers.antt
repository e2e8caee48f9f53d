-- A record's number fits a word.
use Rattle.words.proofs.Laws.{fits_word}
use Rattle.words.proofs.Table.refusal.Goals as goal

pub overflow_cast-result : goal.overflow_cast-result
overflow_cast-result c = fits_word c.args.self.readable c.requires
