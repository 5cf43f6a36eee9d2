-- What the code's Token is in the definition; where there is none, nothing starts an item.
use Rattle.std.specs.Prelude.{Option, Some, None}
use Rattle.rules.specs.Serial as Rule
use Rattle.load.specs.declared.token.Token.{Token}

abbrev pub token_paper : Option Token → Rule.Token
token_paper None = Rule.broken
token_paper (Some Token.Opening) = Rule.opening
token_paper (Some (Token.String from to)) = Rule.string from to
