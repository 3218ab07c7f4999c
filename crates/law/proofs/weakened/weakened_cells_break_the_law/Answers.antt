use Rattle.law.proofs.Broken.{runs_of_the_law, said_by_the_law, blind_reads, forgetting_reads, keeping_none_answers, blind_answers, counting_from_1_gives_up}
use Rattle.law.proofs.weakened.weakened_cells_break_the_law.Goals as goal

pub returns : goal.returns
returns c = record {
  runs = runs_of_the_law;
  said = said_by_the_law;
  writes = blind_reads;
  order = forgetting_reads;
  taken = keeping_none_answers;
  mistaken = blind_answers;
  budget = counting_from_1_gives_up;
}
