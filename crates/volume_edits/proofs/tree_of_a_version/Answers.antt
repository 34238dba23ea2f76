use Rattle.volume_edits.proofs.Standings.{linked_there, only_in_table, derived_in_table, older_in_table, first_in_table, newer_in_table, listed_in_table}
use Rattle.volume_edits.proofs.tree_of_a_version.Goals as goal

pub returns : goal.returns
returns g c = record {
  linked = λ s records v vol. linked_there g.P.Ground s records v vol;
  only = λ s records v oid version index is vol named has. only_in_table g.P.Ground s records v vol oid version index is named has;
  derived = λ s records v oid version index is vol named has. derived_in_table g.P.Ground s records v vol oid version index is named has;
  older = λ s records v oid version index is found vol named has at. older_in_table g.P.Ground s records v vol oid version index is named has found at;
  first = λ s records v oid version index is vol named has. first_in_table g.P.Ground s records v vol oid version index is named has;
  newer = λ s records v oid version index is vol named has frozen. newer_in_table g.P.Ground s records v vol oid version index is named has frozen;
  listed = λ s records v oid version index is listing vol named has lists. listed_in_table g.P.Ground s records v vol oid version index is named has listing lists;
}
