mod Plays
