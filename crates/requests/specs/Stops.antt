use Rattle.words.specs.declared.reading.Unread.{Unread}
use Rattle.words.specs.declared.reading.Unread.TheVariants as unread
use Rattle.requests.specs.declared.lines.Cannot.TheVariants.{Word}
use Rattle.requests.specs.declared.lines.Wanted.TheVariants.{Byte}
use Rattle.requests.specs.declared.lines.Stop.{Stop}
use Rattle.requests.specs.declared.lines.Stop.TheVariants.{Cannot as Unable, Memory}

abbrev pub of_unread : Unread → Stop
of_unread (unread.NoByte n) = Unable (Word n Byte)
of_unread unread.Memory = Memory
