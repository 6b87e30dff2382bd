use Rattle.d64_effects.proofs.ContentSteps.{formatted-lists_nothing, written-lists_the_file, scratched-lists_the_others, renamed-lists_the_name, named-lists_the_same, validated-lists_the_closed, undeleted-lists_the_file}
use Rattle.d64_effects.proofs.laws.steps_change_the_list_of_files.Goals as goal

pub returns-clause-formatted : goal.returns-clause-formatted
returns-clause-formatted c = formatted-lists_nothing

pub returns-clause-written : goal.returns-clause-written
returns-clause-written c = written-lists_the_file

pub returns-clause-scratched : goal.returns-clause-scratched
returns-clause-scratched c = scratched-lists_the_others

pub returns-clause-renamed : goal.returns-clause-renamed
returns-clause-renamed c = renamed-lists_the_name

pub returns-clause-validated : goal.returns-clause-validated
returns-clause-validated c = validated-lists_the_closed

pub returns-clause-named : goal.returns-clause-named
returns-clause-named c = named-lists_the_same

pub returns-clause-undeleted : goal.returns-clause-undeleted
returns-clause-undeleted c = undeleted-lists_the_file
