mod Arrows
