-- The symbols of the program as symbols of the grammar.
use Rattle.expression_laws.specs.LeftToRight.{Symbol as Plain, digit, plus_sign, minus_sign, star}
use Rattle.expression_laws.specs.LeftToRight.{slash, opens, closes, opens_list, closes_list, comma}
use Rattle.expression_laws.specs.LeftToRight.{letter_of, other}
use Rattle.expression_reading.specs.declared.symbol.Symbol.{Symbol}
use Rattle.expression_reading.specs.declared.symbol.Symbol.TheVariants.{Digit, Plus, Minus, Star}
use Rattle.expression_reading.specs.declared.symbol.Symbol.TheVariants.{Slash, Open, Close}
use Rattle.expression_reading.specs.declared.symbol.Symbol.TheVariants.{OpenList, CloseList, Comma}
use Rattle.expression_reading.specs.declared.symbol.Symbol.TheVariants.{Letter, Other}
use Rattle.expression_reading.specs.Trees.{basis_of}

-- the symbol of the grammar for a symbol of the program
abbrev pub symbol_in : Symbol → Plain
symbol_in (Digit byte) = digit byte
symbol_in Plus = plus_sign
symbol_in Minus = minus_sign
symbol_in Star = star
symbol_in Slash = slash
symbol_in Open = opens
symbol_in Close = closes
symbol_in OpenList = opens_list
symbol_in CloseList = closes_list
symbol_in Comma = comma
symbol_in (Letter basis) = letter_of (basis_of basis)
symbol_in Other = other
