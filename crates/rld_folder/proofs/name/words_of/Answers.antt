use Rattle.rld_folder.proofs.Texts.{number_alone, numbers_split}
use Rattle.rld_folder.proofs.name.words_of.Goals as goal

pub returns : goal.returns
returns c = record {
  two = λ era number fits e.
      numbers_split era number c.args.word.now c.split_once.result c.split_once.ensures.cases fits e;
  one = λ number fits e.
      number_alone number c.args.word.now c.split_once.result c.split_once.ensures.cases fits e;
}
