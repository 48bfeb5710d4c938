use Rattle.rsl_steps.proofs.BookAnswers.{same_answer}
use Rattle.rsl_steps.proofs.laws.books_answer_as_looking_back.Goals as goal

pub returns : goal.returns
returns c = same_answer c.decision_law.ensures c.books_are_those_of_the_past.ensures
