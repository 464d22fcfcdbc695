-- The house grammar, and what its lines of items are read by. Assumes nothing.
-- The page: "House grammar: line end 10, escape 92, separator 32, tab 9; … markers `- * +`; delimiters `. )`".
use Rattle.common.specs.Items.{ItemGrammar, grammar}
use Rattle.common.specs.Sets.{is_marker, is_delimiter}
use Rattle.common.specs.declared.grammar.Grammar.{Grammar}

-- "line end 10, escape 92, separator 32, tab 9"
abbrev pub house : Grammar
house = record { eol = 10; escape = 92; sep = 32; tab = 9 }

-- its lines with a marker, and with a number's delimiter
abbrev pub house_marks : ItemGrammar
house_marks = grammar house.eol house.sep house.tab is_marker

abbrev pub house_numbers : ItemGrammar
house_numbers = grammar house.eol house.sep house.tab is_delimiter
