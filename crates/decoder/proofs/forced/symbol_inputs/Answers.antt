-- `symbol_inputs` decodes the coded bits that it has placed.
use Rattle.decoder.specs.Decoded.{histories_in}
use Rattle.decoder.proofs.SymbolLaws.{encoders_asked, symbol_filled, symbol_sound, symbol_moved}
use Rattle.decoder.proofs.forced.symbol_inputs.Goals as goal

pub decode_symbol-requires : goal.decode_symbol-requires
decode_symbol-requires c = let placed = c.symbol_coded.ensures in
    encoders_asked c.args.plan c.requires.fits placed _ c.groups_of.ensures c.requires placed.same

pub returns : goal.returns
returns c = let placed = c.symbol_coded.ensures in
    let hs = histories_in c.args.histories in record {
      filled = symbol_filled c.args.plan c.requires.fits placed hs _ c.groups_of.ensures c.decode_symbol.ensures;
      sound_value = symbol_sound c.args.plan c.requires.fits placed hs _ c.groups_of.ensures c.decode_symbol.ensures;
      histories_value = symbol_moved c.args.plan c.requires.fits placed hs _ c.groups_of.ensures c.decode_symbol.ensures;
    }
