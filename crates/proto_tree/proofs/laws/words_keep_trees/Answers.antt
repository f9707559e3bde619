use Rattle.proto_tree.proofs.WordLaws.{words_keep_trees, words_keep_trees_in, words_come_for_words, words_come_for_words_in, edits_keep_trees, edits_keep_trees_in}
use Rattle.proto_tree.proofs.laws.words_keep_trees.Goals as goal

pub returns-clause-trees : goal.returns-clause-trees
returns-clause-trees c = words_keep_trees

pub returns-clause-trees_in : goal.returns-clause-trees_in
returns-clause-trees_in c = words_keep_trees_in

pub returns-clause-words : goal.returns-clause-words
returns-clause-words c = words_come_for_words

pub returns-clause-words_in : goal.returns-clause-words_in
returns-clause-words_in c = words_come_for_words_in

pub returns-clause-edits : goal.returns-clause-edits
returns-clause-edits c = edits_keep_trees

pub returns-clause-edits_in : goal.returns-clause-edits_in
returns-clause-edits_in c = edits_keep_trees_in
